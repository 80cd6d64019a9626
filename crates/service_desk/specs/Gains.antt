-- What a seat gains of the history over calls in a row.
use Rattle.std.specs.Prelude.{◌≡◌, ◌+◌, List, length, ◌++◌}
use Rattle.call_form.specs.declared.Call.{Call}
use Rattle.call_form.specs.declared.Outcome.{Outcome}
use Rattle.session_core.specs.Served.{Told}
use Rattle.turn_desk.specs.declared.objects.Entry.{Entry}
use Rattle.turn_desk.specs.Histories.{requests_of, state_of}
use Rattle.service_core.specs.declared.requests.Request.{Request}
use Rattle.service_core.specs.States.{State}
use Rattle.service_desk.specs.Boards.{state_after}
use Rattle.service_desk.specs.Seats.{Seat, IsSameSeat, Hears}
use Rattle.service_desk.specs.Hearing.{asked_by, heard, dones_at}

-- the state of the registers where the history is that which the pass has seen
abbrev pub state_at : Seat → State
state_at seat = state_of state_after seat.desk.start seat.pass.seen

-- the pass has seen more of the history; of it, its own entries are exactly the requests of these calls, each once and
-- in order, and the outcomes are those heard with what these requests came to at their places
pub record Gains (before after : Seat) (calls : List Call) (outcomes : List Outcome) : Type 0 where
  pub fresh : List (Entry Request)
  pub grew : after.pass.seen ≡ before.pass.seen ++ fresh
  pub own : requests_of before.pass.number fresh ≡ asked_by before.sheet calls
  pub hears : outcomes ≡ heard before.sheet calls (dones_at before.pass.number (state_at before) fresh)
  pub made : after.made ≡ before.made + length (asked_by before.sheet calls)
  pub same : IsSameSeat before after

-- what is gained over calls, and then over more calls, is gained over all of them
abbrev pub GainsInARow : Type 0
GainsInARow = (a b c : Seat) (calls more : List Call) (outcomes others : List Outcome)
    → Gains a b calls outcomes → Gains b c more others → Gains a c (calls ++ more) (outcomes ++ others)

-- what a seat hears, call after call, it gains
abbrev pub GainsWhatItHears : Type 0
GainsWhatItHears = (a b : Seat) (calls : List Call) (outcomes : List Outcome)
    → Told Hears a calls outcomes b → Gains a b calls outcomes
