-- What is written on a connection whose calls are answered one after another.
use Rattle.std.specs.Prelude.{◌≡◌, ℕ, ◌≤◌, List, [], ◌∷◌, ◌++◌, length, ⊤, Option, IfSome}
use Rattle.std.specs.Io.KnownBytes.{Appends, Consumes}
use Rattle.link_port.specs.Faults.{Rises}
use Rattle.call_form.specs.declared.Call.{Call}
use Rattle.call_form.specs.declared.Outcome.{Outcome}
use Rattle.session_core.specs.declared.stops.Stop.{Stop}
use Rattle.session_core.specs.declared.stops.Stop.TheVariants as stop
use Rattle.session_core.specs.Limits.{most_bytes}
use Rattle.session_core.specs.Outcomes.{AllFit}
use Rattle.session_core.specs.Run.{Ran, stopped, after, run}

-- from the state a, these calls had these outcomes, one after another, and left the state b
abbrev pub Told : {A : Type 0} → (A → Call → Outcome → A → Type 0) → A → List Call → List Outcome → A → Type 0
Told tells a [] [] b = b ≡ a
Told tells a [] (outcome ∷ outcomes) b = ⊥
Told tells a (call ∷ calls) [] b = ⊥
Told {A} tells a (call ∷ calls) (outcome ∷ outcomes) b = (mid : A) × tells a call outcome mid × Told tells mid calls outcomes b

-- the stop is that of an input that ended where it did
abbrev pub IsOfEnd : Stop → Type 0
IsOfEnd stop.End = ⊤
IsOfEnd (stop.Cut bytes) = ⊤
IsOfEnd stop.Upgraded = ⊤
IsOfEnd _ = ⊥

-- what is left of a run, after the calls that were answered and the bytes that were written. A stop of the run leaves
-- nothing; after a read fault nothing is left of the whole messages; after a write fault, or where memory ran out, what
-- was written is a front of what the run writes. No other stop comes
abbrev pub Leaves : Stop → List ℕ → Ran → Type 0
Leaves stop.ReadFault unwritten later = (unwritten ≡ []) × ((why : Stop) × IsOfEnd why × (later ≡ stopped why))
Leaves stop.WriteFault unwritten later = ⊤
Leaves stop.Memory unwritten later = ⊤
Leaves (stop.Full bytes) unwritten later = ⊥
Leaves stop.Worn unwritten later = ⊥
Leaves why unwritten later = (unwritten ≡ []) × (later ≡ stopped why)

-- a run came so far: these calls of it were answered, these bytes of it were written, and what is left of it is so
pub record Reaches (ran : Ran) (calls : List Call) (out : List ℕ) (Left : List ℕ → Ran → Type 0) : Type 0 where
  pub unwritten : List ℕ
  pub later : Ran
  pub is : ran ≡ after calls (out ++ unwritten) later
  pub leaves : Left unwritten later

-- the calls of this run were answered, these bytes of it were written, and it came to this stop
abbrev pub ComesTo : Ran → List Call → List ℕ → Stop → Type 0
ComesTo ran calls out why = Reaches ran calls out (Leaves why)

-- where the stop says that the input ended, all that was left was taken
abbrev pub TakesAll : Stop → Option (List ℕ) → List ℕ → Type 0
TakesAll stop.End left taken = IfSome left (λ bytes. taken ≡ bytes)
TakesAll (stop.Cut bytes) left taken = IfSome left (λ bytes. taken ≡ bytes)
TakesAll stop.Upgraded left taken = IfSome left (λ bytes. taken ≡ bytes)
TakesAll _ left taken = ⊤

-- one session was served: these bytes were taken from what was left; the answerer went from a to b by its own
-- definition over the calls answered, each by an outcome that fits it; what was written is what the session machine writes for these bytes with these
-- outcomes; and the stop is the machine's
pub record Served {A : Type 0} (tells : A → Call → Outcome → A → Type 0) (limit : ℕ) (a b : A)
    (left left' written written' : Option (List ℕ)) (why : Stop) : Type 0 where
  pub taken : List ℕ
  pub calls : List Call
  pub outcomes : List Outcome
  pub out : List ℕ
  pub consumed : Consumes left left' taken
  pub most : length taken ≤ most_bytes
  pub told : Told tells a calls outcomes b
  pub fits : AllFit calls outcomes
  pub wrote : Appends written written' out
  pub comes : ComesTo (run limit taken outcomes) calls out why
  pub all : TakesAll why left taken

-- a count of faults rose exactly where the stop is that fault
abbrev pub ReadFaults : Stop → ℕ → ℕ → Type 0
ReadFaults stop.ReadFault before now = Rises before now
ReadFaults _ before now = now ≡ before

abbrev pub WriteFaults : Stop → ℕ → ℕ → Type 0
WriteFaults stop.WriteFault before now = Rises before now
WriteFaults _ before now = now ≡ before
