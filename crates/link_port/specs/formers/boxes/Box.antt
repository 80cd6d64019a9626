-- How a `Box` holds its value, so that a type may lead back to itself through a box of its own kind: contracts see
-- the value itself, and the box owns and lends what the value owns and lends.
use mathlib.Core.Path.{refl}
use mathlib.Core.Former.{Former, this, const, pair, via}
use base.Stored.{gnil}
use base.Fml.{ftrue}
use denote.RattleType.{RattleType}
use denote.Memory.{part_of}
use denote.RawPtr.{Ptr}
use denote.Sharing.{nothing}
use denote.HoleLaws.{Alike}
use denote.HolePlaces.{Recodes, struct_places, laid, one_value}
use denote.Hole.Fix.{over}
use denote.Param.Weighed.{Weighed}
use denote.Model.Placed.{view_places}
use Rattle.std.specs.declared.boxed.Box.{Box}
use Rattle.std.specs.contracts.boxed.Box as heap_box
use Rattle.std.specs.declared.alloc.Global.{Global}
use Rattle.std.specs.contracts.alloc.Global as heap
use Rattle.std.specs.contracts.impls.GlobalAllocator.TheImpl.{ghosts}
use Rattle.link_port.specs.declared.boxes.Box.TheInside.{Inside}
use Rattle.link_port.specs.declared.boxes.Box.TheView.{view, invariant}
use Rattle.link_port.specs.contracts.boxes.Box as C
use Rattle.link_port.specs.contracts.boxes.Box.TheInside as I

-- what contracts see: the value
abbrev pub the_former : Former {0} → Former {0}
the_former part = part

abbrev pub the_weighed : {part : Former {0}} → Weighed part → Weighed (the_former part)
the_weighed weighed = weighed

-- the struct's one field is a box of std: its pointer and allocator, and the value
abbrev held_by_box : Former {0}
held_by_box =
    via (pair (const (Ptr × Global)) this) Inside (λ X inside. ((inside.inner.ptr, inside.inner.alloc), inside.inner.value))
    (λ X parts. record { inner = record { ptr = parts.0.0; alloc = parts.0.1; value = parts.1 } }) (λ X inside. refl) (λ X parts. refl)

-- the same box with another value in it
abbrev holding : {X Y : Type 0} → Box X Global → Y → Box Y Global
holding b value = record { ptr = b.ptr; alloc = b.alloc; value = value }

abbrev row_of : RattleType → RattleType
row_of Held = heap_box.the_row Held heap.the_row ghosts

module _ (From To : RattleType) (along : From.Denot → To.Denot) where
  box_places : Alike From To along → Alike (row_of From) (row_of To) (λ b. holding b (along b.value))
  unfolding part_of
  box_places alike = record {
    mir_same = λ i. (row_of (one_value From (alike.mir_same i) (λ _. ftrue) (λ _ _. nothing) gnil)).mir;
    own_same = λ b i. (row_of (one_value From (alike.mir_same i) (alike.own_same b.value i) (alike.shr_same b.value i) gnil)).own_val (holding b tt);
    shr_same = λ b i. (row_of (one_value From (alike.mir_same i) (alike.own_same b.value i) (alike.shr_same b.value i) gnil)).shr_at (holding b tt);
  }

  pub the_places : Alike From To along → Alike (C.the_row From) (C.the_row To) ((the_former this).map From.Denot To.Denot along)
  the_places alike = view_places held_by_box this view (λ X Y k u. refl) (λ X u. refl) From.Denot To.Denot along
      (C.the_row From).coded (C.the_row To).coded (invariant From.Denot) (invariant To.Denot)
      (λ u p q. refl) (λ u p q. refl) (λ u e. tt) (λ u e. tt) (over (I.the_row From)) (over (I.the_row To))
      (struct_places (I.the_type From) (I.the_type To) ((λ b. holding b (along b.value)), tt) _ (λ value. refl) refl
      (laid _ _ _ (box_places alike), tt))

  pub the_codes_placed : Recodes From To along → Recodes (C.the_row From) (C.the_row To) ((the_former this).map From.Denot To.Denot along)
  the_codes_placed recodes value = recodes value
