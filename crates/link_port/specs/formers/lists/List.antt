-- How a `List` holds its items, so that a type may lead back to itself through a list of its own kind: the parts
-- are the items in order, no list is without a place for them, and the list owns and lends what they own and lend.
use mathlib.Core.Path.{◌≡◌, refl, sym}
use mathlib.Core.List.{List, []}
use mathlib.Core.Former.{Former, this, list, via, children}
use base.Stored.{code_map}
use denote.RattleType.{RattleType}
use denote.HoleLaws.{Alike}
use denote.HolePlaces.{Recodes, struct_places, laid}
use denote.Hole.Carrier.{listed, list-listed}
use denote.Hole.Fix.{over}
use denote.Param.Weighed.{Weighed, w_list}
use denote.Model.Placed.{view_places}
use Rattle.std.specs.formers.vec.Vec as vec
use Rattle.std.specs.declared.alloc.Global.{Global}
use Rattle.std.specs.contracts.alloc.Global as heap
use Rattle.std.specs.contracts.impls.GlobalAllocator.TheImpl.{ghosts}
use Rattle.link_port.specs.declared.lists.List.TheInside.{Inside}
use Rattle.link_port.specs.declared.lists.List.TheView.{view, invariant}
use Rattle.link_port.specs.contracts.lists.List as C
use Rattle.link_port.specs.contracts.lists.List.TheInside as I

-- what contracts see: a list
abbrev pub the_former : Former {0} → Former {0}
the_former part = list part

-- a list weighs as its heaviest item
abbrev pub the_weighed : {part : Former {0}} → Weighed part → Weighed (the_former part)
the_weighed weighed = w_list weighed

-- the list that holds nothing
pub the_empty : List ⊥
the_empty = []

-- the items, in order
abbrev pub the_items : (Item : Type 0) → List Item → List Item
the_items Item items = items

pub the_items_listed : (Item : Type 0) (items : List Item) → listed _ (children (the_former this) Item items) ≡ the_items Item items
the_items_listed Item items = list-listed Item items

-- the struct's one field is a vector, which holds the items
abbrev held_by_vec : Former {0}
held_by_vec =
    via (vec.the_former this Global) Inside (λ Item inside. inside.items) (λ Item items. record { items = items })
    (λ Item inside. refl) (λ Item items. refl)

module _ (From To : RattleType) (along : From.Denot → To.Denot) where
  pub the_places : Alike From To along → Alike (C.the_row From) (C.the_row To) ((the_former this).map From.Denot To.Denot along)
  the_places alike = view_places held_by_vec (list this) view (λ X Y k u. refl) (λ X u. refl) From.Denot To.Denot along
      (C.the_row From).coded (C.the_row To).coded (invariant From.Denot) (invariant To.Denot)
      (λ u p q. refl) (λ u p q. refl) (λ u e. tt) (λ u e. tt) (over (I.the_row From)) (over (I.the_row To))
      (struct_places (I.the_type From) (I.the_type To) (vec.mapped along, tt) _ (λ items. refl) refl
      (laid _ _ _ (vec.the_places heap.the_row ghosts From To along alike), tt))

  pub the_codes_placed : Recodes From To along → Recodes (C.the_row From) (C.the_row To) ((the_former this).map From.Denot To.Denot along)
  the_codes_placed recodes items = sym (code_map From.coded.code To.coded.code along (λ item. sym (recodes item)) items)
