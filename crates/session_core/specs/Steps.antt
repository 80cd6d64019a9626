-- What each call of a session does.
use Rattle.std.specs.Prelude.{◌≡◌, ℕ, ◌+◌, ◌-◌, ◌<◌, ◌≤◌, min, if◌then◌else◌, List, [], ◌∷◌, ◌++◌, length, ⊤, Option, None, Some, Ok, Err}
use Rattle.message_frame.specs.Pieces.{NoNul, ended}
use Rattle.call_form.specs.declared.Outcome.{Outcome}
use Rattle.call_form.specs.declared.Raw.{Raw}
use Rattle.call_form.specs.declared.Reply.{Reply}
use Rattle.call_form.specs.CallOf.{call_of, IsObject}
use Rattle.session_core.specs.declared.phases.Phase.{Phase}
use Rattle.session_core.specs.declared.phases.Phase.TheVariants as phase
use Rattle.session_core.specs.declared.sessions.Turn.{Turn}
use Rattle.session_core.specs.declared.sessions.Turn.TheVariants as turn
use Rattle.session_core.specs.declared.stops.Stop.{Stop}
use Rattle.session_core.specs.declared.stops.Stop.TheVariants as stop
use Rattle.session_core.specs.Limits.{most_bytes}
use Rattle.session_core.specs.Outcomes.{without_first}
use Rattle.session_core.specs.Run.{at_end, end_of, echoed, texts}
use Rattle.session_core.specs.Seen.{Seen, Moves}

-- ---- what goes in

-- how many more bytes a session takes: as many as there is room for, and none after a stop
abbrev pub room_in : Phase → Seen → ℕ
room_in (phase.Stopped why) seen = 0
room_in _ seen = min (most_bytes - seen.taken) (seen.limit + 1 - length seen.held)

-- the session with these bytes behind those that it holds
abbrev pub holding : Seen → List ℕ → Seen
holding seen bytes = record seen { taken = seen.taken + length bytes; held = seen.held ++ bytes }

-- ---- what comes out

-- no call waits for its replies
abbrev pub IsIdle : Phase → Type 0
IsIdle (phase.Waiting oneway) = ⊥
IsIdle _ = ⊤

-- the bytes held begin with a message, and these bytes follow it
pub record Heads (seen : Seen) (payload rest : List ℕ) : Type 0 where
  pub front : seen.held ≡ ended payload ++ rest
  pub no_nul : NoNul payload
  pub short : length payload ≤ seen.limit

-- no whole message is held, and what is held may still become one
pub record IsOpen (seen : Seen) : Type 0 where
  pub no_nul : NoNul seen.held
  pub short : length seen.held ≤ seen.limit

-- why a session stops between calls
abbrev pub StopsAt : Seen → Stop → Type 0
StopsAt seen (stop.NotCall index fault) =
    (payload : List ℕ) × (rest : List ℕ) × Heads seen payload rest × (index ≡ seen.index) × (call_of payload ≡ Err fault)
StopsAt seen (stop.TooLong index) = NoNul seen.held × (seen.limit < length seen.held) × (index ≡ seen.index)
StopsAt seen stop.Long = IsOpen seen × (seen.taken ≡ most_bytes)
StopsAt seen stop.Memory = ⊤
StopsAt seen _ = ⊥

-- the session stops, by its phase: once stopped, it gives the same stop again and stays as it is
abbrev pub StopsIn : Phase → Seen → Stop → Seen → Type 0
StopsIn phase.Calls old why new = StopsAt old why × (new ≡ record old { phase = phase.Stopped why; held = new.held })
StopsIn (phase.Waiting oneway) old why new = ⊥
StopsIn (phase.Raw raw) old why new =
    (why ≡ stop.Long) × (old.taken ≡ most_bytes) × (old.held ≡ []) × (new ≡ record old { phase = phase.Stopped why })
StopsIn (phase.Stopped before) old why new = (why ≡ before) × (new ≡ old)

-- what `next` gives, where, and what it leaves
abbrev pub Turns : Seen → Turn → Seen → Type 0
Turns old (turn.Call call) new =
    (payload : List ℕ) × (old.phase ≡ phase.Calls) × Heads old payload new.held × (call_of payload ≡ Ok call)
    × IsObject call.parameters
    × (new ≡ record old { phase = phase.Waiting call.oneway; index = old.index + 1; held = new.held })
Turns old turn.NeedMore new = (old.phase ≡ phase.Calls) × IsOpen old × (old.taken < most_bytes) × (new ≡ old)
Turns old (turn.Raw raw) new =
    (old.phase ≡ phase.Raw raw) × (old.held ≡ [] → old.taken < most_bytes) × (new ≡ old)
Turns old (turn.Stop why) new = StopsIn old.phase old why new

-- what is left to run, after each turn: a call is taken off the front, and else nothing. Want of memory is no stop of
-- the bytes
abbrev pub RunsOn : Seen → Turn → Seen → Type 0
RunsOn old (turn.Call call) new = Moves old new [] [] (call ∷ []) []
RunsOn old (turn.Stop stop.Memory) new = ⊤
RunsOn old _ new = Moves old new [] [] [] []

-- ---- the end of the input

-- the session may be told that the input has ended: it asked for more, holds nothing of another protocol, or stopped
abbrev pub IsPaused : Phase → Seen → Type 0
IsPaused phase.Calls seen = IsOpen seen × (seen.taken < most_bytes)
IsPaused (phase.Waiting oneway) seen = ⊥
IsPaused (phase.Raw raw) seen = seen.held ≡ []
IsPaused (phase.Stopped why) seen = ⊤

-- the stop at the end of the input
abbrev pub ended_in : Phase → Seen → Stop
ended_in (phase.Raw raw) seen = at_end seen.taken stop.Upgraded
ended_in (phase.Stopped why) seen = why
ended_in _ seen = end_of seen.held

-- ---- replies

-- the call that was given last waits for its replies
abbrev pub IsWaiting : Phase → Type 0
IsWaiting (phase.Waiting oneway) = ⊤
IsWaiting _ = ⊥

-- the texts that are written for the call that waits
abbrev pub texts_in : Phase → Outcome → List ℕ
texts_in (phase.Waiting oneway) outcome = texts oneway outcome
texts_in _ outcome = []

-- the replies that are asked for: none for a `oneway` call
abbrev pub asked_in : Phase → List Reply → List Reply
asked_in (phase.Waiting oneway) replies = if oneway then [] else replies
asked_in _ replies = []

-- what is left once a call was answered: no reply, and all that there were for a `oneway` call
abbrev pub left_after : Phase → Outcome → Outcome
left_after (phase.Waiting oneway) outcome = if oneway then outcome else without_first outcome []
left_after _ outcome = outcome

-- after the replies come calls, or raw bytes where an upgrade was accepted
abbrev pub replied_phase : Option Raw → Phase
replied_phase None = phase.Calls
replied_phase (Some raw) = phase.Raw raw

-- ---- raw bytes

abbrev pub IsRaw : Phase → Type 0
IsRaw (phase.Raw raw) = ⊤
IsRaw _ = ⊥

-- the bytes that come back of those held
abbrev pub echoed_in : Phase → List ℕ → List ℕ
echoed_in (phase.Raw raw) bytes = echoed raw bytes
echoed_in _ bytes = []
