-- Answerers whose answer is a function of their state and the call.
use Rattle.std.specs.Prelude.{◌≡◌, ◌↔◌, List, [], ◌∷◌}
use Rattle.call_form.specs.declared.Call.{Call}
use Rattle.call_form.specs.declared.Outcome.{Outcome}
use Rattle.session_core.specs.Served.{Told}

-- what is answered to one call, and the state after it
pub record Tell (A : Type 0) : Type 0 where
  pub outcome : Outcome
  pub state : A

-- the outcome and the state after it are those of this function
abbrev pub tells_by : {A : Type 0} → (A → Call → Tell A) → A → Call → Outcome → A → Type 0
tells_by tell a call outcome b = (outcome ≡ (tell a call).outcome) × (b ≡ (tell a call).state)

-- each call has an outcome of its own, whatever came before, and the state stays as it is
abbrev pub always : {A : Type 0} → (Call → Outcome) → A → Call → Tell A
always outcome_of state call = record { outcome = outcome_of call; state = state }

-- what is answered to calls in a row, and the state after them
pub record Tale (A : Type 0) : Type 0 where
  pub outcomes : List Outcome
  pub state : A

abbrev pub told_first : {A : Type 0} → Outcome → Tale A → Tale A
told_first outcome tale = record { outcomes = outcome ∷ tale.outcomes; state = tale.state }

abbrev pub tale_of : {A : Type 0} → (A → Call → Tell A) → A → List Call → Tale A
tale_of tell a [] = record { outcomes = []; state = a }
tale_of tell a (call ∷ calls) = told_first (tell a call).outcome (tale_of tell (tell a call).state calls)

-- calls were answered one after another by such a function exactly where the outcomes and the last state are the
-- function's over the whole list
abbrev pub TellsAll : Type 0 → Type 0
TellsAll A =
    (tell : A → Call → Tell A) (a b : A) (calls : List Call) (outcomes : List Outcome) →
    Told (tells_by tell) a calls outcomes b ↔ ((outcomes ≡ (tale_of tell a calls).outcomes) × (b ≡ (tale_of tell a calls).state))
