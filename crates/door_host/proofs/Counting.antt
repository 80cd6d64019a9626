-- A history that the passes of distinct numbers made has as many entries as they made.
use Rattle.std.proofs.Common.{◌≡◌, ◌≢◌, ◌⊎◌, ℕ, ◌+◌, eqb, Bool, true, false, cond, List, [], ◌∷◌, ◌++◌, length, refl, sym, ap, ◌∙◌, subst, arith, ⊎_elim, ne_eqb, eq-eqb}
use Rattle.std.specs.Prelude.{All, Contains, map, filter, slice_index_or}
use Rattle.std.proofs.lemmas.List.Elements.{All-head, All-tail}
use native.Mathlib.Decide.{ℕ_discrete}
use Rattle.turn_desk.specs.declared.objects.Entry.{Entry}
use Rattle.turn_desk.specs.Histories.{requests_of}
use Rattle.turn_desk.specs.Turns.{total}
use Rattle.door_host.specs.Hosts.{AreDistinct}
use Rattle.door_host.proofs.Lists.{contains_nothing, contains_later, contains_first, contains_cases}

abbrev one_if : Bool → ℕ
one_if b = cond b 1 0

-- how often a number stands in a list
abbrev hits : ℕ → List ℕ → ℕ
hits number numbers = total (λ n. one_if (eqb number n)) numbers

hit : (number n : ℕ) → number ≡ n → one_if (eqb number n) ≡ 1
hit number n is = ap one_if (eq-eqb number n is)

miss : (number n : ℕ) → number ≢ n → one_if (eqb number n) ≡ 0
miss number n other = ap one_if (ne_eqb number n other)

no_hit : (number : ℕ) (numbers : List ℕ) → (¬ Contains numbers number) → hits number numbers ≡ 0
no_hit number [] none = refl
no_hit number (n ∷ numbers) none =
    let rest = no_hit number numbers (λ c. none (contains_later n number numbers c)) in
    let here = miss number n (λ is. none (contains_first n number numbers (sym is))) in
    omega arith

one_hit : (number : ℕ) (numbers : List ℕ) → AreDistinct numbers → Contains numbers number → hits number numbers ≡ 1
one_hit number [] distinct there = absurd (contains_nothing number there)
one_hit number (n ∷ numbers) distinct there = go (ℕ_discrete number n) (one_hit number numbers distinct.1)
  where
    go : Dec (number ≡ n) → (Contains numbers number → hits number numbers ≡ 1) → hits number (n ∷ numbers) ≡ 1
    go (yes is) again =
        let gone : ¬ Contains numbers number = λ c. distinct.0 (subst (Contains numbers) is c) in
        let here = hit number n is in
        let rest = no_hit number numbers gone in
        omega arith
    go (no other) again =
        let here = miss number n other in
        let later : Contains numbers number = ⊎_elim (λ is. absurd (other (sym is))) (λ c. c) (contains_cases n number numbers there) in
        let rest = again later in
        omega arith

total_none : {V : Type 0} (xs : List V) → total (λ x. 0) xs ≡ 0
total_none [] = refl
total_none (x ∷ xs) = let rest = total_none xs in omega arith

total_sum : {V : Type 0} (f g : V → ℕ) (xs : List V) → total (λ x. f x + g x) xs ≡ total f xs + total g xs
total_sum f g [] = refl
total_sum f g (x ∷ xs) = let rest = total_sum f g xs in omega arith

pub total_same : {V : Type 0} (f g : V → ℕ) (xs : List V) → All (λ x. f x ≡ g x) xs → total f xs ≡ total g xs
total_same f g [] same = refl
total_same f g (x ∷ xs) same =
    let here = All-head (λ y. f y ≡ g y) x xs same in
    let rest = total_same f g xs (All-tail (λ y. f y ≡ g y) x xs same) in
    omega arith

pub total_map : {V W : Type 0} (f : W → ℕ) (m : V → W) (xs : List V) → total f (map m xs) ≡ total (λ x. f (m x)) xs
total_map f m [] = refl
total_map f m (x ∷ xs) = let rest = total_map f m xs in omega arith

module _ {R : Type 0} where
  one_more : (b : Bool) (e : Entry R) (es : List (Entry R)) → length (map (λ (x : Entry R). x.request) (cond b (e ∷ es) es)) ≡ one_if b + length (map (λ (x : Entry R). x.request) es)
  one_more true e es = omega arith
  one_more false e es = omega arith

  own_more : (n : ℕ) (e : Entry R) (es : List (Entry R)) → length (requests_of n (e ∷ es)) ≡ one_if (eqb e.pass n) + length (requests_of n es)
  own_more n e es = one_more (eqb e.pass n) e (filter (λ x. eqb x.pass n) es)

  -- each entry is counted once
  pub counted : (numbers : List ℕ) (history : List (Entry R)) → AreDistinct numbers → All (λ e. Contains numbers e.pass) history
      → total (λ n. length (requests_of n history)) numbers ≡ length history
  counted numbers [] distinct owned = total_none numbers
  counted numbers (e ∷ es) distinct owned =
      let here = one_hit e.pass numbers distinct (All-head (λ (x : Entry R). Contains numbers x.pass) e es owned) in
      let rest = counted numbers es distinct (All-tail (λ (x : Entry R). Contains numbers x.pass) e es owned) in
      let each = total_same (λ n. length (requests_of n (e ∷ es))) (λ n. one_if (eqb e.pass n) + length (requests_of n es)) numbers (λ k d low. own_more (slice_index_or numbers k d) e es) in
      let sum = total_sum (λ n. one_if (eqb e.pass n)) (λ n. length (requests_of n es)) numbers in
      omega arith
