-- prefixes of two types, side by side
use Rattle.std.proofs.Common.{◌≡◌, ℕ, zero, suc, ◌+◌, ◌<◌, List, [], ◌∷◌, length, drop, get_or, Option, Some, None, option_map, refl, sym, ap, ◌∙◌, arith}
use Rattle.idl_tree.specs.declared.trees.Prefix.{Prefix}
use Rattle.idl_compat.specs.Walks.{next_left, stuck, behind_step}

pub at_stuck : (to : List Prefix) (i : ℕ) (prefix : Prefix) (left : List Prefix) → i < length to → prefix ≡ get_or to i prefix
    → stuck (drop i to) left ≡ behind_step (next_left left prefix) (λ rest. stuck (drop (suc i) to) rest)
at_stuck [] i prefix left within at = absurd (omega arith)
at_stuck (first ∷ to) zero prefix left within at = ap (λ (p : Prefix). behind_step (next_left left p) (λ rest. stuck to rest)) (sym at)
at_stuck (first ∷ to) (suc i) prefix left within at = at_stuck to i prefix left (omega arith) at

farther : (i : ℕ) (o : Option ℕ) → option_map (λ n. i + n) (option_map (λ n. suc n) o) ≡ option_map (λ n. i + 1 + n) o
farther i None = refl
farther i (Some n) = ap Some (let e : i + suc n ≡ i + 1 + n = omega arith in e)

pub goes_on : (to from : List Prefix) (i : ℕ) (prefix : Prefix) (left rest : List Prefix) → i < length to → prefix ≡ get_or to i prefix
    → stuck to from ≡ option_map (λ n. i + n) (stuck (drop i to) left) → next_left left prefix ≡ Some rest
    → stuck to from ≡ option_map (λ n. i + 1 + n) (stuck (drop (i + 1) to) rest)
goes_on to from i prefix left rest within at so next =
    let more : suc i ≡ i + 1 = omega arith in
    so ∙ ap (option_map (λ n. i + n)) (at_stuck to i prefix left within at ∙ ap (λ (o : Option (List Prefix)). behind_step o (λ l. stuck (drop (suc i) to) l)) next)
    ∙ farther i (stuck (drop (suc i) to) rest) ∙ ap (λ (k : ℕ). option_map (λ n. i + 1 + n) (stuck (drop k to) rest)) more

pub stops : (to from : List Prefix) (i : ℕ) (prefix : Prefix) (left : List Prefix) → i < length to → prefix ≡ get_or to i prefix
    → stuck to from ≡ option_map (λ n. i + n) (stuck (drop i to) left) → next_left left prefix ≡ None
    → Some i ≡ stuck to from
stops to from i prefix left within at so next =
    let here : i + 0 ≡ i = omega arith in
    sym (so ∙ ap (option_map (λ n. i + n)) (at_stuck to i prefix left within at ∙ ap (λ (o : Option (List Prefix)). behind_step o (λ l. stuck (drop (suc i) to) l)) next)
    ∙ ap Some here)
