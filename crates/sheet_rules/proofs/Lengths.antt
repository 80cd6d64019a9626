-- lists of other lengths have no value or expression for each field
use Rattle.std.proofs.Common.{◌≡◌, ℕ, suc, Bool, true, false, ◌&&◌, List, [], ◌∷◌, length, map, refl, ap}
use Rattle.idl_tree.specs.declared.trees.Field.{Field}
use Rattle.typed_value.specs.OfType.{Fit, fields_fit}
use Rattle.sheet_rules.specs.Types.{type_in}
use Rattle.sheet_rules.specs.Gives.{Giver, each_given}

and_false : (test rest : Bool) → false ≡ rest → false ≡ (test && rest)
and_false true rest h = h
and_false false rest h = refl

pub other_givers : {A : Type 0} (f : A → Giver) (scope : ℕ) (fields : List Field) (xs : List A) → (length fields ≡ length xs → ⊥)
    → false ≡ each_given scope fields (map f xs)
other_givers f scope [] [] apart = absurd (apart refl)
other_givers f scope [] (x ∷ xs) apart = refl
other_givers f scope (field ∷ fields) [] apart = refl
other_givers f scope (field ∷ fields) (x ∷ xs) apart =
    and_false (f x (type_in scope field.of)) (each_given scope fields (map f xs)) (other_givers f scope fields xs (λ e. apart (ap suc e)))

pub other_values : {A : Type 0} (f : A → Fit) (fields : List Field) (xs : List A) → (length fields ≡ length xs → ⊥)
    → false ≡ fields_fit fields (map f xs)
other_values f [] [] apart = absurd (apart refl)
other_values f [] (x ∷ xs) apart = refl
other_values f (field ∷ fields) [] apart = refl
other_values f (field ∷ fields) (x ∷ xs) apart =
    and_false (f x field.of.prefixes field.of.core) (fields_fit fields (map f xs)) (other_values f fields xs (λ e. apart (ap suc e)))
