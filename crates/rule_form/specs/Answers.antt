-- What the forming of a rule answers: what is formed, or the first refusal.
use Rattle.std.specs.Prelude.{◌≡◌, Bool, Option, Some, None, Result, Ok, Err, ⊤, if◌then◌else◌}
use Rattle.sheet_draft.specs.declared.places.Spot.{Spot}
use Rattle.rule_form.specs.declared.faults.RuleFault.{RuleFault}
use Rattle.rule_form.specs.declared.faults.RuleFault.TheVariants.{NoSuchRegister, Float, IllTyped, Memory}

infixl 10 ◌>>=◌
-- the first part, and then the rest of it; the fault of a part is the fault of all
abbrev pub ◌>>=◌ : {A B : Type 0} → Result A RuleFault → (A → Result B RuleFault) → Result B RuleFault
(Ok x) >>= f = f x
(Err fault) >>= f = Err fault

-- what is formed, or this fault
abbrev pub or_fault : {A : Type 0} → RuleFault → Option A → Result A RuleFault
or_fault fault None = Err fault
or_fault fault (Some x) = Ok x

-- what is formed at a spot, where first no register is missing, and then `float` is not reached
abbrev pub formed_at : {A : Type 0} → Spot → Bool → Bool → Option A → Result A RuleFault
formed_at spot misses floats made = if misses then Err (NoSuchRegister spot)
    else (if floats then Err (Float spot) else or_fault (IllTyped spot) made)

-- what the definition has; want of memory may come in place of any answer
abbrev pub Refuses : {A : Type 0} → RuleFault → Result A RuleFault → Type 0
Refuses Memory there = ⊤
Refuses fault there = there ≡ Err fault

abbrev pub Answers : {A : Type 0} → Result A RuleFault → Result A RuleFault → Type 0
Answers (Ok x) there = there ≡ Ok x
Answers (Err fault) there = Refuses fault there
