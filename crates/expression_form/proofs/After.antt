-- what is formed so far, before what is left to form
use Rattle.std.proofs.Common.{◌≡◌, ◌≤◌, ℕ, List, [], ◌∷◌, ◌++◌, length, drop, map, Option, Some, None, option_map, refl, sym, ap, append_assoc}
use Rattle.std.proofs.lemmas.List.{drop_all, append-nil}
use Rattle.typed_value.specs.Reads.{all_of}
use Rattle.sheet_rules.specs.Types.{Typ}

abbrev pub after : {A : Type 0} → List A → Option (List A) → Option (List A)
after values left = option_map (λ later. values ++ later) left

pub after_more : {A : Type 0} (values : List A) (value : A) (left : Option (List A))
    → after values (option_map (λ later. value ∷ later) left) ≡ after (values ++ value ∷ []) left
after_more values value None = refl
after_more values value (Some later) = ap Some (rw append_assoc refl)

-- the same of a path with its type
abbrev pub path_after : List ℕ → Option (List ℕ × Typ) → Option (List ℕ × Typ)
path_after path left = option_map (λ (rest : List ℕ × Typ). (path ++ rest.0, rest.1)) left

pub path_more : (path : List ℕ) (place : ℕ) (left : Option (List ℕ × Typ))
    → path_after path (option_map (λ (rest : List ℕ × Typ). (place ∷ rest.0, rest.1)) left) ≡ path_after (path ++ place ∷ []) left
path_more path place None = refl
path_more path place (Some rest) = ap (λ (p : List ℕ). Some (p, rest.1)) (rw append_assoc refl)

-- when nothing is left to form
pub after_all : {A B : Type 0} (f : A → Option B) (xs : List A) (i : ℕ) (done : List B) → length xs ≤ i
    → after done (all_of (map f (drop i xs))) ≡ all_of (map f xs) → all_of (map f xs) ≡ Some done
after_all f xs i done h is = let opened = rw (drop_all i xs h, append-nil done) at is in sym opened
