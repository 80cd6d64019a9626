-- items of JSON arrays, place by place
use Rattle.std.proofs.Common.{◌≡◌, ℕ, zero, suc, ◌<◌, true, List, [], ◌∷◌, length, get_or, Some, sym, ap, ◌∙◌, arith}
use Rattle.serde_json.specs.Data.{Items}
use Rattle.serde_json.specs.Events.{items_len}
use Rattle.serde_json.specs.Find.{get_item}
use Rattle.serde_json.specs.View.{view, items_view}
use Rattle.serde_json.specs.declared.value.Value.{Value}
use Rattle.serde_json.proofs.Views.{get_item_within, items_len-items_view}
use Rattle.typed_value.proofs.Distinct.{first_true, second_true}
use Rattle.typed_value.specs.Ints.{has_only_ints, items_have_only_ints}

pub length_same : (one other : List Value) → items_view one ≡ items_view other → length one ≡ length other
length_same one other same = sym (items_len-items_view one) ∙ ap items_len same ∙ items_len-items_view other

pub item_same : (one other : List Value) (i : ℕ) (x y : Value) → i < length one → i < length other → x ≡ get_or one i x → y ≡ get_or other i y
    → items_view one ≡ items_view other → view x ≡ view y
item_same one other i x y in_one in_other at_x at_y same =
    let left : Some (view x) ≡ get_item i (items_view one) = ap (λ (v : Value). Some (view v)) at_x ∙ get_item_within one i x in_one in
    let right : Some (view y) ≡ get_item i (items_view other) = ap (λ (v : Value). Some (view v)) at_y ∙ get_item_within other i y in_other in
    let both : Some (view x) ≡ Some (view y) = left ∙ ap (λ (ds : Items). get_item i ds) same ∙ sym right in
    (cc)

pub ints_at : (vs : List Value) (i : ℕ) (v : Value) → items_have_only_ints (items_view vs) ≡ true → i < length vs → v ≡ get_or vs i v → has_only_ints (view v) ≡ true
ints_at [] i v h within is = absurd (omega arith)
ints_at (w ∷ vs) zero v h within is = ap (λ (x : Value). has_only_ints (view x)) is ∙ first_true (has_only_ints (view w)) (items_have_only_ints (items_view vs)) h
ints_at (w ∷ vs) (suc i) v h within is = ints_at vs i v (second_true (has_only_ints (view w)) (items_have_only_ints (items_view vs)) h) (omega arith) is
