-- Values that are passed over, token by token.
use Rattle.std.proofs.Common.{◌≡◌, ℕ, ◌-◌, ◌<◌, List, [], ◌∷◌, true, false, length, is_some, Option, Some, None, option_map, refl, ap, ◌∙◌}
use Rattle.json.specs.Token.{Token}
use Rattle.json.specs.Json.{parse_map, items, members, value}
use Rattle.json.proofs.Grammar.{value_is, value-begin_array, value-begin_object, left_some, left_none}
use Rattle.serde_json.specs.Data.{Data, Num, number, array, object}
use Rattle.serde_json.specs.Read.{of_json, converted, number_of}
use Rattle.caller_form.proofs.TreeLemmas.{converted-array, converted-object}
use Rattle.call_form.specs.CallOf.{IsObject}
use Rattle.caller_form.specs.Kinds.{IsOther, tree_at, items_at, members_at, behind}

some_of : {A : Type 0} (x : Option A) → is_some x ≡ true → (a : A) × (x ≡ Some a)
some_of None is = absurd cc
some_of (Some a) is = (a, refl)

none_of : {A : Type 0} (x : Option A) → is_some x ≡ false → x ≡ None
none_of None is = refl
none_of (Some a) is = absurd cc

abbrev number_behind : List Token → Option Num → Option (Data × List Token)
number_behind ts found = option_map (λ d. (d, ts)) (option_map number found)

pub reads_number : (depth : ℕ) (s : List ℕ) (ts : List Token) → is_some (number_of s) ≡ true →
    (tree : Data) × (tree_at depth (Token.number s ∷ ts) ≡ Some (tree, ts)) × IsOther tree
reads_number depth s ts is =
    let n = some_of (number_of s) is in
    (number n.0, ap (converted of_json) (value_is depth (Token.number s ∷ ts)) ∙ ap (number_behind ts) n.1, tt)

pub refuses_number : (depth : ℕ) (s : List ℕ) (ts : List Token) → is_some (number_of s) ≡ false →
    tree_at depth (Token.number s ∷ ts) ≡ None
refuses_number depth s ts is =
    ap (converted of_json) (value_is depth (Token.number s ∷ ts)) ∙ ap (number_behind ts) (none_of (number_of s) is)

pub opens_array : (depth : ℕ) (ts : List Token) → 0 < depth →
    tree_at depth (Token.begin_array ∷ ts) ≡ parse_map array (items_at (depth - 1) ts)
opens_array depth ts some =
    ap (converted of_json) (value-begin_array depth ts some) ∙ converted-array (items (value (depth - 1)) (length ts) ts)

pub opens_object : (depth : ℕ) (ts : List Token) → 0 < depth →
    tree_at depth (Token.begin_object ∷ ts) ≡ parse_map object (members_at (depth - 1) ts)
opens_object depth ts some =
    ap (converted of_json) (value-begin_object depth ts some) ∙ converted-object (members (value (depth - 1)) (length ts) ts)

pub reads_array : (depth : ℕ) (ts r : List Token) → 0 < depth → behind (items_at (depth - 1) ts) ≡ Some r →
    (tree : Data) × (tree_at depth (Token.begin_array ∷ ts) ≡ Some (tree, r)) × IsOther tree
reads_array depth ts r some e =
    let ds = left_some (items_at (depth - 1) ts) r e in
    (array ds.0, opens_array depth ts some ∙ ap (parse_map array) ds.1, tt)

pub refuses_array : (depth : ℕ) (ts : List Token) → 0 < depth → behind (items_at (depth - 1) ts) ≡ None →
    tree_at depth (Token.begin_array ∷ ts) ≡ None
refuses_array depth ts some e =
    opens_array depth ts some ∙ ap (parse_map array) (left_none (items_at (depth - 1) ts) e)

pub reads_object : (depth : ℕ) (ts r : List Token) → 0 < depth → behind (members_at (depth - 1) ts) ≡ Some r →
    (tree : Data) × (tree_at depth (Token.begin_object ∷ ts) ≡ Some (tree, r)) × IsObject tree
reads_object depth ts r some e =
    let ms = left_some (members_at (depth - 1) ts) r e in
    (object ms.0, opens_object depth ts some ∙ ap (parse_map object) ms.1, refl)

pub refuses_object : (depth : ℕ) (ts : List Token) → 0 < depth → behind (members_at (depth - 1) ts) ≡ None →
    tree_at depth (Token.begin_object ∷ ts) ≡ None
refuses_object depth ts some e =
    opens_object depth ts some ∙ ap (parse_map object) (left_none (members_at (depth - 1) ts) e)

pub refuses_deep_array : (depth : ℕ) (ts : List Token) → depth ≡ 0 → tree_at depth (Token.begin_array ∷ ts) ≡ None
unfolding value
refuses_deep_array depth ts none = ap (λ d. tree_at d (Token.begin_array ∷ ts)) none

pub refuses_deep_object : (depth : ℕ) (ts : List Token) → depth ≡ 0 → tree_at depth (Token.begin_object ∷ ts) ≡ None
unfolding value
refuses_deep_object depth ts none = ap (λ d. tree_at d (Token.begin_object ∷ ts)) none

pub refuses_end : (depth : ℕ) → tree_at depth [] ≡ None
refuses_end depth = ap (converted of_json) (value_is depth [])
