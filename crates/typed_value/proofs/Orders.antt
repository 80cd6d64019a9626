-- the keys of a map, and of an object that is read, are in byte order, each once
use Rattle.std.proofs.Common.{◌≡◌, true, ◌&&◌, List, [], ◌∷◌, map, Less, refl, string_bytes}
use Rattle.std.specs.List.{AllByRecursion}
use Rattle.std.specs.List.Sorted.{IsStrictlySortedBy}
use Rattle.std.specs.Map.{keys_of}
use Rattle.std.specs.String.{string_cmp}
use Rattle.serde_json.specs.View.{view, members_view}
use Rattle.serde_json.proofs.Views.{Entry}
use Rattle.idl_tree.specs.Names.{Bytes}
use Rattle.idl_tree.specs.declared.trees.Interface.{Interface}
use Rattle.typed_value.specs.Reads.{Reader, member_readers}
use Rattle.typed_value.specs.KeyOrder.{is_before_all, are_in_order, member_keys, is_as_read, members_are_as_read}

abbrev keys_read : Interface → List Entry → List Bytes
keys_read scope es = map (λ (member : Bytes × Reader). member.0) (member_readers scope (members_view es))

before_all : (scope : Interface) (e : Entry) (es : List Entry) → AllByRecursion (λ y. string_cmp e.0 y ≡ Less) (keys_of es)
    → is_before_all (string_bytes e.0) (keys_read scope es) ≡ true
before_all scope e [] h = refl
before_all scope e (next ∷ es) h = rw h.0 (before_all scope e es h.1)

pub in_order : (scope : Interface) (es : List Entry) → IsStrictlySortedBy string_cmp (keys_of es) → are_in_order (keys_read scope es) ≡ true
unfolding IsStrictlySortedBy
in_order scope [] h = refl
in_order scope (e ∷ es) h = rw (before_all scope e es h.0) (in_order scope es h.1)

before_members : (e : Entry) (es : List Entry) → AllByRecursion (λ y. string_cmp e.0 y ≡ Less) (keys_of es)
    → is_before_all (string_bytes e.0) (member_keys (members_view es)) ≡ true
before_members e [] h = refl
before_members e (next ∷ es) h = rw h.0 (before_members e es h.1)

pub sorted_rest : (e : Entry) (es : List Entry) → IsStrictlySortedBy string_cmp (keys_of (e ∷ es)) → IsStrictlySortedBy string_cmp (keys_of es)
unfolding IsStrictlySortedBy
sorted_rest e es h = h.1

-- one more member, before those that are in order
pub order_more : (e : Entry) (es : List Entry) → IsStrictlySortedBy string_cmp (keys_of (e ∷ es)) → is_as_read (view e.1) ≡ true
    → members_are_as_read (members_view es) ≡ true → members_are_as_read (members_view (e ∷ es)) ≡ true
unfolding IsStrictlySortedBy
order_more e es h here rest = rw (before_members e es h.0, here) rest
