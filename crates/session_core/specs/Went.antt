-- How far a connection has come, said of whole steps, which can be put one behind the other.
use Rattle.std.specs.Prelude.{◌≡◌, ℕ, ◌+◌, ◌<◌, ◌≤◌, List, [], ◌∷◌, ◌++◌, length, ⊤}
use Rattle.call_form.specs.declared.Call.{Call}
use Rattle.call_form.specs.declared.Outcome.{Outcome}
use Rattle.session_core.specs.declared.phases.Phase.{Phase}
use Rattle.session_core.specs.declared.phases.Phase.TheVariants as phase
use Rattle.session_core.specs.declared.stops.Stop.{Stop}
use Rattle.session_core.specs.declared.stops.Stop.TheVariants as stop
use Rattle.session_core.specs.Limits.{most_bytes}
use Rattle.session_core.specs.Outcomes.{Fits, AllFit}
use Rattle.session_core.specs.Run.{texts}
use Rattle.session_core.specs.Seen.{Seen, Moves, run_from}
use Rattle.session_core.specs.Steps.{IsOpen, replied_phase}
use Rattle.session_core.specs.Sent.{Sent, Sends, SendsFront}
use Rattle.session_core.specs.Served.{Told, Reaches, ComesTo}
use Rattle.session_core.specs.Heard.{Closes}

-- the session reads calls, or passes raw bytes
abbrev pub IsRunning : Phase → Type 0
IsRunning phase.Calls = ⊤
IsRunning (phase.Raw raw) = ⊤
IsRunning _ = ⊥

-- all that could be handled was, and more may be taken
abbrev pub IsReadyIn : Phase → Seen → Type 0
IsReadyIn phase.Calls seen = IsOpen seen
IsReadyIn (phase.Raw raw) seen = seen.held ≡ []
IsReadyIn _ seen = ⊥

pub record IsReady (seen : Seen) : Type 0 where
  pub handled : IsReadyIn seen.phase seen
  pub more : seen.taken < most_bytes

-- raw bytes were passed on, and no call was read
pub record Passed (old new : Seen) (here there : Sent) : Type 0 where
  pub out : List ℕ
  pub sends : Sends here there out
  pub moves : Moves old new [] [] [] out

-- the session stopped while raw bytes were passed on
pub record PassedUntil (old : Seen) (here there : Sent) (why : Stop) : Type 0 where
  pub out : List ℕ
  pub sends : Sends here there out
  pub on : (bytes : List ℕ) → old.taken + length bytes ≤ most_bytes → ComesTo (run_from old bytes []) [] out why

-- the stops at which the replies to a call were cut off
abbrev pub IsCut : Stop → Type 0
IsCut stop.WriteFault = ⊤
IsCut stop.Memory = ⊤
IsCut _ = ⊥

module _ {A : Type 0} (tells : A → Call → Outcome → A → Type 0) where
  -- these bytes went into the session, and it and the hearer went on by whole calls
  pub record Went (old new : Seen) (fed : List ℕ) (a b : A) (here there : Sent) : Type 0 where
    pub calls : List Call
    pub outcomes : List Outcome
    pub out : List ℕ
    pub told : Told tells a calls outcomes b
    pub fits : AllFit calls outcomes
    pub sends : Sends here there out
    pub moves : Moves old new fed outcomes calls out

  -- the call that waits was answered, and its replies were sent
  pub record Answered (old new : Seen) (call : Call) (a b : A) (here there : Sent) : Type 0 where
    pub outcome : Outcome
    pub told : tells a call outcome b
    pub fits : Fits call outcome
    pub sends : Sends here there (texts call.oneway outcome)
    pub moves : Moves old new [] (outcome ∷ []) [] (texts call.oneway outcome)
    pub state : new ≡ record old { phase = replied_phase outcome.raw }

  -- the call that waits got an outcome, and its replies were not all sent
  pub record BrokeOff (call : Call) (a b : A) (here there : Sent) (why : Stop) : Type 0 where
    pub outcome : Outcome
    pub told : tells a call outcome b
    pub fits : Fits call outcome
    pub part : SendsFront here there (texts call.oneway outcome)
    pub cut : IsCut why

  -- these bytes went into the session, and whatever comes after them it has stopped
  pub record Halts (refuses : A → Call → Stop → A → Type 0) (old : Seen) (fed : List ℕ) (a b : A) (here there : Sent) (why : Stop) : Type 0 where
    pub calls : List Call
    pub outcomes : List Outcome
    pub out : List ℕ
    pub last : A
    pub told : Told tells a calls outcomes last
    pub fits : AllFit calls outcomes
    pub sends : Sends here there out
    pub on : (bytes : List ℕ) → old.taken + length (fed ++ bytes) ≤ most_bytes →
        Reaches (run_from old (fed ++ bytes) outcomes) calls out (Closes refuses last b why)

-- the call that waits was refused, and nothing was sent for it
abbrev pub Turned : {A : Type 0} → (A → Call → Stop → A → Type 0) → Call → A → A → Sent → Sent → Stop → Type 0
Turned refuses call a b here there why = refuses a call why b × (there ≡ here)

-- nothing waits, unless the sink failed
abbrev pub EmptyUnlessFault : Stop → List ℕ → Type 0
EmptyUnlessFault stop.WriteFault waiting = ⊤
EmptyUnlessFault _ waiting = waiting ≡ []

-- the stops of a call that was given
abbrev pub IsBreak : Stop → Type 0
IsBreak (stop.Full bytes) = ⊤
IsBreak stop.Worn = ⊤
IsBreak stop.WriteFault = ⊤
IsBreak stop.Memory = ⊤
IsBreak _ = ⊥

-- the stops that come between whole messages, at a refusal and at a fault of the sink
abbrev pub IsHalt : Stop → Type 0
IsHalt (stop.NotCall index fault) = ⊤
IsHalt (stop.TooLong index) = ⊤
IsHalt stop.Long = ⊤
IsHalt why = IsBreak why
