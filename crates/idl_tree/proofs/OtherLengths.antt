-- lists of other lengths aren't the same
use Rattle.std.proofs.Common.{◌≡◌, suc, Bool, true, false, ◌&&◌, List, [], ◌∷◌, length, map, refl, ap}
use Rattle.idl_tree.specs.Same.{each_passes}

and_false : (test rest : Bool) → false ≡ rest → false ≡ (test && rest)
and_false true rest h = h
and_false false rest h = refl

pub other_lengths : {A : Type 0} (same : A → A → Bool) (one other : List A) → (length one ≡ length other → ⊥)
    → false ≡ each_passes (map same one) other
other_lengths same [] [] apart = absurd (apart refl)
other_lengths same [] (x ∷ xs) apart = refl
other_lengths same (x ∷ xs) [] apart = refl
other_lengths same (x ∷ xs) (y ∷ ys) apart =
    and_false (same x y) (each_passes (map same xs) ys) (other_lengths same xs ys (λ e. apart (ap suc e)))
