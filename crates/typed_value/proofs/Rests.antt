-- what is read so far, before what is left to read
use Rattle.std.proofs.Common.{◌≡◌, List, [], ◌∷◌, ◌++◌, Option, Some, None, option_map, refl, ap, append_assoc}

abbrev pub after : {A : Type 0} → List A → Option (List A) → Option (List A)
after values left = option_map (λ later. values ++ later) left

pub after_more : {A : Type 0} (values : List A) (value : A) (left : Option (List A))
    → after values (option_map (λ later. value ∷ later) left) ≡ after (values ++ value ∷ []) left
after_more values value None = refl
after_more values value (Some later) = ap Some (rw append_assoc refl)
