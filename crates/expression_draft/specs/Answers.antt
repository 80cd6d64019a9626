-- What readers answer.
use Rattle.std.specs.Prelude.{◌≡◌, Option, Some, None, Result, Ok, Err, ⊤}
use Rattle.expression_draft.specs.declared.faults.Misfit.{Misfit}
use Rattle.expression_draft.specs.declared.faults.Misfit.TheVariants.{Unfit, Memory}

-- what the definition has, or that it has nothing; want of memory tells nothing
abbrev pub Gives : {A : Type 0} → Result A Misfit → Option A → Type 0
Gives (Ok x) there = there ≡ Some x
Gives (Err Unfit) there = there ≡ None
Gives (Err Memory) there = ⊤

-- the same of a part, behind which these are left
abbrev pub GivesNext : {A B : Type 0} → Result A Misfit → B → Option (A × B) → Type 0
GivesNext (Ok x) left there = there ≡ Some (x, left)
GivesNext (Err Unfit) left there = there ≡ None
GivesNext (Err Memory) left there = ⊤
