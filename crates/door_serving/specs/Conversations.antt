-- What the session of one connection is to the seat that answers its calls.
use Rattle.std.specs.Prelude.{◌≡◌, ℕ, ◌+◌, ◌≤◌, List, ◌++◌, length, Option}
use Rattle.std.specs.Io.KnownBytes.{Appends, Consumes}
use Rattle.call_form.specs.declared.Call.{Call}
use Rattle.call_form.specs.declared.Outcome.{Outcome}
use Rattle.call_form.specs.declared.TheConstants.{CALL_LIMIT}
use Rattle.session_core.specs.declared.stops.Stop.{Stop}
use Rattle.session_core.specs.Heard.{Closes, refuses_by}
use Rattle.session_core.specs.Limits.{most_bytes}
use Rattle.session_core.specs.Outcomes.{AllFit}
use Rattle.session_core.specs.Run.{run}
use Rattle.session_core.specs.Served.{Reaches, TakesAll}
use Rattle.turn_desk.specs.declared.objects.Entry.{Entry}
use Rattle.turn_desk.specs.Histories.{requests_of}
use Rattle.service_core.specs.declared.requests.Request.{Request}
use Rattle.service_desk.specs.Gains.{Gains}
use Rattle.turn_desk.specs.Passes.{all_asks}
use Rattle.service_desk.specs.Seats.{Seat, IsSameSeat, Misses}
use Rattle.door_serving.specs.Stops.{stop_of}

-- The calls of one connection were answered by a seat, which went from `before` to `after`. These bytes were taken from
-- what was left on it. Of the calls in them these were answered; the entries that the seat gained of the history are exactly
-- the requests of these calls, each once and in order, and the outcomes are those of these requests at their places.
-- What was written is what the session machine writes for the bytes taken with these outcomes, and the stop is the
-- machine's; or the next call was refused, which took the seat from `last` to `after`, and all before it is written
pub record Conversation (before after : Seat) (left left' written written' : Option (List ℕ)) (why : Stop) : Type 0 where
  pub taken : List ℕ
  pub calls : List Call
  pub outcomes : List Outcome
  pub out : List ℕ
  pub last : Seat
  pub consumed : Consumes left left' taken
  pub most : length taken ≤ most_bytes
  pub gains : Gains before last calls outcomes
  pub fits : AllFit calls outcomes
  pub wrote : Appends written written' out
  pub comes : Reaches (run CALL_LIMIT taken outcomes) calls out (Closes (refuses_by Misses stop_of) last after why)
  pub all : TakesAll why left taken

-- the seat is at the same desk with the same pass, which has seen more of the history; as many entries of that are its own
-- as were counted, and no ask is lost
pub record GoesOn (before after : Seat) : Type 0 where
  pub same : IsSameSeat before after
  pub asks : all_asks after.pass ≡ all_asks before.pass
  pub fresh : List (Entry Request)
  pub grew : after.pass.seen ≡ before.pass.seen ++ fresh
  pub counted : after.made ≡ before.made + length (requests_of before.pass.number fresh)

-- whatever has gone on to the one goes on to the other
abbrev pub GoesAlong : Seat → Seat → Type 0
GoesAlong before after = (first : Seat) → GoesOn first before → GoesOn first after
