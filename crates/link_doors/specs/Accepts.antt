-- What an accept gives.
use Rattle.std.specs.Prelude.{◌≡◌, ◌≢◌, ℕ, ◌+◌, Bool, false, List, [], ◌∷◌, Option, Some, None, IfSome, Result, MatchResult, MatchOption}

-- none is given exactly where the stated number was given; else one more is, or the accept failed
abbrev pub Accepts : {C E : Type 0} → Option ℕ → ℕ → ℕ → Result (Option C) E → Type 0
Accepts stated given given' result = MatchResult result
    (λ conn. MatchOption conn ((stated ≡ Some given) × (given' ≡ given)) (λ _. (stated ≢ Some given) × (given' ≡ given + 1)))
    (λ _. (stated ≢ Some given) × (given' ≡ given))

-- where those to come are told: the first of them is given, and none exactly where none is left; a failed accept gives none
abbrev pub Takes : {C : Type 0} → List C → Option (List C) → Option C → Type 0
Takes coming after (Some conn) = IfSome after (λ rest. coming ≡ conn ∷ rest)
Takes coming after None = (coming ≡ []) × (after ≡ Some [])

abbrev pub GivesFirst : {C E : Type 0} → Option (List C) → Option (List C) → Result (Option C) E → Type 0
GivesFirst before after result = MatchResult result (λ conn. IfSome before (λ coming. Takes coming after conn)) (λ _. after ≡ before)

-- nothing was written on a connection, none of its calls failed, and it is not finished
abbrev pub IsNew : Option (List ℕ) → ℕ → ℕ → Bool → Type 0
IsNew written read_faults write_faults finished =
    IfSome written (λ bytes. bytes ≡ []) × (read_faults ≡ 0) × (write_faults ≡ 0) × (finished ≡ false)
