-- keys that rise from each to the next are in order
use Rattle.std.proofs.Common.{◌≡◌, ℕ, suc, ◌+◌, ◌<◌, arith, Bool, true, false, ◌&&◌, List, [], ◌∷◌, length, get_or, drop, map, Ordering, Less, Equal, Greater, refl, sym, ap, ◌∙◌}
use Rattle.std.proofs.Math.Seq.{drop-cons}
use Rattle.std.specs.Ordering.{nat_cmp, is_lt}
use Rattle.std.specs.Cmp.Lexicographic.{slice_cmp}
use Rattle.std.proofs.lemmas.Cmp.{nat_list_cmp_total}
use Rattle.idl_tree.specs.Names.{Bytes}
use Rattle.typed_value.specs.KeyOrder.{is_before_all, are_in_order}
use Rattle.typed_value.specs.declared.vals.Val.{Val}
use Rattle.typed_value.proofs.Distinct.{first_true, second_true}
use Rattle.sheet_rules.specs.Types.{is_before_next}

abbrev cmp : Bytes → Bytes → Ordering
cmp = slice_cmp nat_cmp

less_of : (o : Ordering) → is_lt o ≡ true → o ≡ Less
less_of Less h = refl
less_of Equal h = let no : false ≡ true = h in absurd (cc)
less_of Greater h = let no : false ≡ true = h in absurd (cc)

-- a key before another is before all that it is before
farther : (k l : Bytes) (keys : List Bytes) → is_lt (cmp k l) ≡ true → is_before_all l keys ≡ true → is_before_all k keys ≡ true
farther k l [] kl h = refl
farther k l (m ∷ keys) kl h =
    let lm = first_true (is_lt (cmp l m)) (is_before_all l keys) h in
    let rest = second_true (is_lt (cmp l m)) (is_before_all l keys) h in
    let km : cmp k m ≡ Less = nat_list_cmp_total.trans k l m (less_of (cmp k l) kl) (less_of (cmp l m) lm) in
    rw km (farther k l keys kl rest)

both : (a b c d : Bool) → (a ≡ true → c ≡ true → b ≡ true) → ((a && b) && (c && d)) ≡ (a && (c && d))
both false b c d h = refl
both true true c d h = refl
both true false false d h = refl
both true false true d h = let no : false ≡ true = h refl refl in absurd (cc)

pub order_more : (key : Bytes) (keys : List Bytes) → are_in_order (key ∷ keys) ≡ (is_before_next key keys && are_in_order keys)
order_more key [] = refl
order_more key (next ∷ keys) =
    both (is_lt (cmp key next)) (is_before_all key keys) (is_before_all next keys) (are_in_order keys) (farther key next keys)

abbrev pub keys : List (Bytes × Val) → List Bytes
keys entries = map (λ (entry : Bytes × Val). entry.0) entries

-- the same at a place of a list
pub order_at : (entries : List (Bytes × Val)) (i : ℕ) (entry : Bytes × Val) → i < length entries → entry ≡ get_or entries i entry
    → is_before_next entry.0 (keys (drop (i + 1) entries)) ≡ true
    → are_in_order (keys (drop (i + 1) entries)) ≡ are_in_order (keys (drop i entries))
order_at entries i entry within is before =
    let next : suc i ≡ i + 1 = omega arith in
    let cut : drop i entries ≡ entry ∷ drop (i + 1) entries =
    drop-cons entries i entry within ∙ ap (λ (e : Bytes × Val). e ∷ drop (suc i) entries) (sym is) ∙ ap (λ (n : ℕ). entry ∷ drop n entries) next in
    sym (ap (λ (es : List (Bytes × Val)). are_in_order (keys es)) cut ∙ order_more entry.0 (keys (drop (i + 1) entries))
    ∙ ap (λ (b : Bool). b && are_in_order (keys (drop (i + 1) entries))) before)
