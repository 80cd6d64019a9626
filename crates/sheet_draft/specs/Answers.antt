-- What readers of a sheet answer.
use Rattle.std.specs.Prelude.{◌≡◌, Option, Some, None, Result, Ok, Err, ⊤}
use Rattle.expression_draft.specs.declared.faults.Misfit.{Misfit}
use Rattle.expression_draft.specs.declared.faults.Misfit.TheVariants.{Unfit, Memory}
use Rattle.sheet_draft.specs.declared.faults.DraftFault.{DraftFault}
use Rattle.sheet_draft.specs.declared.faults.DraftFault.TheVariants as fault
use Rattle.sheet_draft.specs.declared.places.Place.{Place}

infixl 10 ◌>>=◌
-- the first part, and then the rest of it; the fault of a part is the fault of all
abbrev pub ◌>>=◌ : {A B : Type 0} → Result A DraftFault → (A → Result B DraftFault) → Result B DraftFault
(Ok x) >>= f = f x
(Err fault) >>= f = Err fault

-- what is read there, or that the form is left at this place
abbrev pub at : {A : Type 0} → Place → Option A → Result A DraftFault
at place None = Err (fault.Shape place)
at place (Some x) = Ok x

-- what the definition has, or its fault; want of memory may come at any place
abbrev pub Refuses : {A : Type 0} → DraftFault → Result A DraftFault → Type 0
Refuses fault.Memory there = ⊤
Refuses why there = there ≡ Err why

abbrev pub Reads : {A : Type 0} → Result A DraftFault → Result A DraftFault → Type 0
Reads (Ok x) there = there ≡ Ok x
Reads (Err why) there = Refuses why there

-- a misfit, told at this place, for which memory may be wanting
abbrev pub Tells : Misfit → Place → DraftFault → Type 0
Tells Memory place why = why ≡ fault.Memory
Tells Unfit place fault.Memory = ⊤
Tells Unfit place why = why ≡ fault.Shape place
