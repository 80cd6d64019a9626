-- what is formed so far, before what is left to form
use Rattle.std.proofs.Common.{◌≡◌, ℕ, suc, ◌+◌, ◌<◌, List, [], ◌∷◌, ◌++◌, length, get_or, drop, Result, Ok, Err, refl, sym, ap, ◌∙◌, append_assoc, add-one, arith}
use Rattle.std.proofs.Math.Seq.{drop-cons}
use Rattle.rule_form.specs.Answers.{◌>>=◌, Refuses}
use Rattle.rule_form.specs.Rules.{each_formed}
use Rattle.rule_form.specs.declared.faults.RuleFault.{RuleFault}
use Rattle.rule_form.specs.declared.faults.RuleFault.TheVariants.{NoSuchMethod, NoSuchRegister, Float, IllTyped, Memory}

abbrev pub behind : {A : Type 0} → List A → Result (List A) RuleFault → Result (List A) RuleFault
behind done (Err fault) = Err fault
behind done (Ok left) = Ok (done ++ left)

pub behind_none : {A : Type 0} (left : Result (List A) RuleFault) → behind [] left ≡ left
behind_none (Err fault) = refl
behind_none (Ok left) = refl

behind_more : {A : Type 0} (done : List A) (x : A) (left : Result (List A) RuleFault)
    → behind done (left >>= λ (xs : List A). Ok (x ∷ xs)) ≡ behind (done ++ x ∷ []) left
behind_more done x (Err fault) = refl
behind_more done x (Ok left) = ap Ok (sym (append_assoc done (x ∷ []) left))

-- the items from a place on, where this one stands there
pub cut_at : {A : Type 0} (xs : List A) (k : ℕ) (x : A) → k < length xs → x ≡ get_or xs k x → drop k xs ≡ x ∷ drop (k + 1) xs
cut_at xs k x within is =
    let next : suc k ≡ k + 1 = omega arith in
    drop-cons xs k x within ∙ ap (λ y. y ∷ drop (suc k) xs) (sym is) ∙ ap (λ (n : ℕ). x ∷ drop n xs) next

-- one more is formed
pub each_more : {A B : Type 0} (forms : ℕ → A → Result B RuleFault) (k : ℕ) (done : List B) (x : A) (y : B) (xs : List A) (all : Result (List B) RuleFault)
    → k < length xs → x ≡ get_or xs k x → behind done (each_formed forms k (drop k xs)) ≡ all → forms k x ≡ Ok y
    → behind (done ++ y ∷ []) (each_formed forms (k + 1) (drop (k + 1) xs)) ≡ all
each_more forms k done x y xs all within at is here =
    let next : suc k ≡ k + 1 = omega arith in
    let opened = rw (cut_at xs k x within at, here) at is in
    ap (λ (n : ℕ). behind (done ++ y ∷ []) (each_formed forms n (drop (k + 1) xs))) (sym next)
    ∙ sym (behind_more done y (each_formed forms (suc k) (drop (k + 1) xs))) ∙ opened

-- the first that is refused
stops : {A B : Type 0} (forms : ℕ → A → Result B RuleFault) (k : ℕ) (done : List B) (x : A) (rest : List A) (fault : RuleFault) (all : Result (List B) RuleFault)
    → behind done (each_formed forms k (x ∷ rest)) ≡ all → Refuses fault (forms k x) → Refuses fault all
stops forms k done x rest NoSuchMethod all is h = let opened = rw h at is in sym opened
stops forms k done x rest (NoSuchRegister spot) all is h = let opened = rw h at is in sym opened
stops forms k done x rest (Float spot) all is h = let opened = rw h at is in sym opened
stops forms k done x rest (IllTyped spot) all is h = let opened = rw h at is in sym opened
stops forms k done x rest Memory all is h = tt

pub each_stops : {A B : Type 0} (forms : ℕ → A → Result B RuleFault) (k : ℕ) (done : List B) (x : A) (xs : List A) (fault : RuleFault) (all : Result (List B) RuleFault)
    → k < length xs → x ≡ get_or xs k x → behind done (each_formed forms k (drop k xs)) ≡ all → Refuses fault (forms k x) → Refuses fault all
each_stops forms k done x xs fault all within at is h =
    let opened = rw (cut_at xs k x within at) at is in
    stops forms k done x (drop (k + 1) xs) fault all opened h
