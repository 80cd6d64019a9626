-- what the front of a vector or map says of the items or members that are seen in it
use Rattle.std.proofs.Common.{◌≡◌, ◌<◌, ◌≤◌, true, false, nat_eq, List, [], ◌∷◌, length, Option, Some, None, String, refl, sym, ap, arith}
use Rattle.std.specs.List.{slice_get}
use Rattle.std.specs.Str.{bytes_eq}
use Rattle.std.specs.String.{string_bytes}
use Rattle.std.specs.declared.alloc.Global.{Global}
use Rattle.serde_json.specs.View.{items_view, members_view}
use Rattle.serde_json.specs.declared.value.Value.{Value}
use Rattle.idl_tree.specs.Names.{Bytes}
use Rattle.expression_draft.specs.Members.{has_no_item, has_no_member, begins_with}

pub no_item_left : (vs : List Value) → length vs ≤ 0 → has_no_item (items_view vs) ≡ true
no_item_left [] h = refl
no_item_left (v ∷ vs) h = absurd (omega (arith, h))

pub item_left : (vs : List Value) → 0 < length vs → has_no_item (items_view vs) ≡ false
item_left [] h = absurd (omega (arith, h))
item_left (v ∷ vs) h = refl

pub member_count : (ms : List (String Global × Value)) → nat_eq (length ms) 0 ≡ has_no_member (members_view ms)
member_count [] = refl
member_count (m ∷ ms) = grind arith

some_name : Option (String Global × Value) → Bytes
some_name None = []
some_name (Some m) = string_bytes m.0

pub first_name : (ms : List (String Global × Value)) (m : String Global × Value) (name : Bytes) → slice_get ms 0 ≡ Some m
    → bytes_eq (string_bytes m.0) name ≡ begins_with name (members_view ms)
unfolding some_name
first_name [] m name h = let no : None ≡ Some m = h in absurd (cc)
first_name (n ∷ ms) m name h = let same : Some n ≡ Some m = h in ap (λ (found : Option (String Global × Value)). bytes_eq (some_name found) name) (sym same)
