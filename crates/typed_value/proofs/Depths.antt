-- a part of a tree is less deep than the tree
use Rattle.std.proofs.Common.{◌≡◌, ℕ, zero, suc, ◌<◌, ◌≤◌, max, List, [], ◌∷◌, length, get_or, map, Option, Some, Ordering, Less, Equal, Greater, arith}
use Rattle.std.specs.Ordering.{nat_cmp, match_ordering}
use Rattle.std.specs.Cmp.Lexicographic.{slice_cmp}
use Rattle.idl_tree.specs.Form.{greatest}
use Rattle.serde_json.specs.Data.{Data, null, boolean, number, string, array, object, Members, no_members, member, depth, items_depth, members_depth}
use Rattle.serde_json.specs.Find.{get, get_member}
use Rattle.serde_json.specs.View.{view, items_view}
use Rattle.serde_json.specs.declared.value.Value.{Value}

found_at : (o : Ordering) (d e : Data) (left : Option Data) (ms : Members) → match_ordering o left (Some d) left ≡ Some e
    → (left ≡ Some e → depth e ≤ members_depth ms) → depth e ≤ max (depth d) (members_depth ms)
found_at Less d e left ms is deeper = omega (arith, deeper is)
found_at Equal d e left ms is deeper = let same : d ≡ e = (cc) in rw same (omega arith)
found_at Greater d e left ms is deeper = omega (arith, deeper is)

member_less : (name : List ℕ) (ms : Members) (e : Data) → get_member name ms ≡ Some e → depth e ≤ members_depth ms
member_less name no_members e h = absurd (cc)
member_less name (member k d ms) e h = found_at (slice_cmp nat_cmp name k) d e _ ms h (member_less name ms e)

pub get_less : (name : List ℕ) (d e : Data) → get name d ≡ Some e → depth e < depth d
get_less name (object ms) e h = omega (arith, member_less name ms e h)
get_less name null e h = absurd (cc)
get_less name (boolean b) e h = absurd (cc)
get_less name (number n) e h = absurd (cc)
get_less name (string s) e h = absurd (cc)
get_less name (array ds) e h = absurd (cc)

pub item_less : (vs : List Value) (i : ℕ) (v : Value) → i < length vs → v ≡ get_or vs i v → depth (view v) ≤ items_depth (items_view vs)
item_less [] i v h is = absurd (omega arith)
item_less (w ∷ vs) zero v h is = let same : v ≡ w = is in rw same (omega arith)
item_less (w ∷ vs) (suc i) v h is = omega (arith, item_less vs i v (omega arith) is)

-- an item is no greater than the greatest
pub greatest_at : {A : Type 0} (size : A → ℕ) (xs : List A) (i : ℕ) (x : A) → i < length xs → x ≡ get_or xs i x → size x ≤ greatest (map size xs)
greatest_at size [] i x h is = absurd (omega arith)
greatest_at size (y ∷ ys) zero x h is = let same : x ≡ y = is in rw same (omega arith)
greatest_at size (y ∷ ys) (suc i) x h is = omega (arith, greatest_at size ys i x (omega arith) is)
