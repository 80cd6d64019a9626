-- What holds of two lists whose items are related place by place.
use Rattle.std.proofs.Common.{◌≡◌, ℕ, suc, ◌+◌, ◌<◌, List, [], ◌∷◌, length, refl, sym, ◌∙◌, arith}
use Rattle.std.proofs.lemmas.List.Sums.{sum_by-cons}
use Rattle.std.specs.Prelude.{sum_by, slice_index_or}

module _ {A : Type 0} (f : A → ℕ) where
  pub same_sums : (xs ys : List A) → length ys ≡ length xs → ((i : ℕ) (w : A) → i < length xs → f (slice_index_or ys i w) ≡ f (slice_index_or xs i w)) → sum_by f ys ≡ sum_by f xs
  same_sums [] [] len at = refl
  same_sums [] (y ∷ ys) len at = absurd (omega arith)
  same_sums (x ∷ xs) [] len at = absurd (omega arith)
  same_sums (x ∷ xs) (y ∷ ys) len at =
      let first : f y ≡ f x = at 0 x (omega arith) in
      let rest = same_sums xs ys (omega arith) (λ i w low. at (suc i) w (omega arith)) in
      sum_by-cons f y ys ∙ ((λ i. first i + rest i) ∙ sym (sum_by-cons f x xs))
