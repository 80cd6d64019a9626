-- the first place that passes a test
use Rattle.std.proofs.Common.{◌≡◌, ℕ, zero, suc, ◌+◌, ◌<◌, Bool, true, false, ◌&&◌, not, cond, List, [], ◌∷◌, ◌++◌, Option, Some, None, MatchOption, is_some, is_none, option_and_then, find, slice_get, length, take, get_or, refl, sym, ap, ◌∙◌, arith, inl, inr}
use Rattle.std.specs.List.{list_any, position_from}
use Rattle.std.proofs.lemmas.Bool.{cases_Bool, eq-eqb, ne_eqb}
use Rattle.idl_tree.specs.Places.{is_place}

module _ {X : Type 0} (p : X → Bool) where
  pub position_from_push : (i : ℕ) (xs : List X) (x : X)
      → position_from p i (xs ++ x ∷ []) ≡ cond (p x && is_none (position_from p i xs)) (Some (i + length xs)) (position_from p i xs)
  position_from_push i [] x =
      elim (p x) as (λ (b : Bool). cond b (Some i) None ≡ cond (b && true) (Some (i + 0)) None) [
        | true ↦ ap (λ (k : ℕ). Some k) (omega arith)
        | false ↦ refl
      ]
  position_from_push i (y ∷ ys) x =
      elim (cases_Bool (p y)) [
        | inl passes ↦ (rw passes (elim (p x) as (λ (b : Bool). ◌≡◌ {A = Option ℕ} (Some i) (cond (b && false) (Some (i + suc (length ys))) (Some i))) [ true ↦ refl | false ↦ refl ]))
        | inr fails ↦ (let more : i + 1 + length ys ≡ i + suc (length ys) = omega arith in
            rw fails (position_from_push (i + 1) ys x ∙ ap (λ (k : ℕ). cond (p x && is_none (position_from p (i + 1) ys)) (Some k) (position_from p (i + 1) ys)) more))
      ]

  pub is_some-position_from : (i : ℕ) (xs : List X) → is_some (position_from p i xs) ≡ list_any p xs
  is_some-position_from i [] = refl
  is_some-position_from i (x ∷ xs) =
      elim (cases_Bool (p x)) [ inl passes ↦ rw passes refl | inr fails ↦ rw fails (is_some-position_from (i + 1) xs) ]

  -- a place that passes is the first one where none before it passes
  pub first_is : (j : ℕ) (xs : List X) (i : ℕ) (d : X) → i < length xs → p (get_or xs i d) ≡ true
      → is_place (position_from p j xs) (j + i) ≡ not (list_any p (take i xs))
  first_is j [] i d within passes = absurd (omega arith)
  first_is j (x ∷ xs) zero d within passes = rw passes (eq-eqb j (j + 0) (omega arith))
  first_is j (x ∷ xs) (suc i) d within passes =
      elim (cases_Bool (p x)) [
        | inl here ↦ rw here (ne_eqb j (j + suc i) (λ same. omega arith))
        | inr fails ↦ (let more : j + 1 + i ≡ j + suc i = omega arith in
            rw fails (ap (λ (k : ℕ). is_place (position_from p (j + 1) xs) k) (sym more) ∙ first_is (j + 1) xs i d (omega arith) passes))
      ]

  step : (j : ℕ) (x : X) (xs : List X) (found : Option X) (place : Option ℕ)
      → MatchOption place (found ≡ None) (λ k. (i : ℕ) × (k ≡ j + 1 + i) × (found ≡ slice_get xs i))
      → MatchOption place (found ≡ None) (λ k. (i : ℕ) × (k ≡ j + i) × (found ≡ slice_get (x ∷ xs) i))
  step j x xs found None h = h
  step j x xs found (Some k) (i, e, h) = (suc i, omega arith, h)

  -- the first place that passes has the first element that passes
  found_at : (j : ℕ) (xs : List X)
      → MatchOption (position_from p j xs) (find p xs ≡ None) (λ k. (i : ℕ) × (k ≡ j + i) × (find p xs ≡ slice_get xs i))
  found_at j [] = refl
  found_at j (x ∷ xs) =
      elim (cases_Bool (p x)) [
        | inl passes ↦ (let here : j ≡ j + 0 = omega arith in rw passes (0, here, refl))
        | inr fails ↦ rw fails (step j x xs (find p xs) (position_from p (j + 1) xs) (found_at (j + 1) xs))
      ]

  element_of : (xs : List X) (found : Option X) (place : Option ℕ)
      → MatchOption place (found ≡ None) (λ k. (i : ℕ) × (k ≡ 0 + i) × (found ≡ slice_get xs i))
      → found ≡ option_and_then (λ (i : ℕ). slice_get xs i) place
  element_of xs found None h = h
  element_of xs found (Some k) (i, e, h) =
      let same : i ≡ k = omega arith in h ∙ ap (λ (n : ℕ). slice_get xs n) same

  pub found_by_place : (xs : List X) (place : Option ℕ) → place ≡ position_from p 0 xs
      → find p xs ≡ option_and_then (λ (i : ℕ). slice_get xs i) place
  found_by_place xs place e =
      rw e (element_of xs (find p xs) (position_from p 0 xs) (found_at 0 xs))
