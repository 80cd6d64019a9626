-- The outcomes of calls in a row, given what the requests among them came to.
use Rattle.std.specs.Prelude.{ℕ, eqb, List, [], ◌∷◌, if◌then◌else◌, Ok, Err}
use Rattle.sheet_step.specs.declared.dones.Done.{Done}
use Rattle.sheet_form.specs.declared.sheets.Contents.{Contents}
use Rattle.call_form.specs.declared.Call.{Call}
use Rattle.call_form.specs.declared.Outcome.{Outcome}
use Rattle.turn_desk.specs.declared.objects.Entry.{Entry}
use Rattle.service_core.specs.declared.requests.Request.{Request}
use Rattle.service_core.specs.Outcomes.{outcome_of}
use Rattle.service_core.specs.Places.{Way, place_of, one}
use Rattle.service_core.specs.States.{State}
use Rattle.service_desk.specs.Boards.{answer_of, state_after}

-- the requests that are asked for, in order
abbrev pub asked_first : Way Request → List Request → List Request
asked_first (Ok request) later = request ∷ later
asked_first (Err reply) later = later

abbrev pub asked_by : Contents → List Call → List Request
asked_by sheet [] = []
asked_by sheet (call ∷ calls) = asked_first (place_of sheet call) (asked_by sheet calls)

-- a call that asks for no step has its reply, and one that asks for a step has the outcome of the next that a request
-- came to. The outcomes end where no more requests came to something
abbrev pub heard_first : Contents → Way Request → (List Done → List Outcome) → List Done → List Outcome
heard_first sheet (Err reply) later dones = one reply ∷ later dones
heard_first sheet (Ok request) later (done ∷ dones) = outcome_of sheet request.rule done ∷ later dones
heard_first sheet (Ok request) later [] = []

abbrev pub heard : Contents → List Call → List Done → List Outcome
heard sheet [] dones = []
heard sheet (call ∷ calls) dones = heard_first sheet (place_of sheet call) (heard sheet calls) dones

-- what the requests of one pass came to, in a history that goes on from a state
abbrev pub dones_at : ℕ → State → List (Entry Request) → List Done
dones_at number state [] = []
dones_at number state (entry ∷ entries) =
    if eqb entry.pass number then answer_of state entry.request ∷ dones_at number (state_after state entry.request) entries
    else dones_at number (state_after state entry.request) entries
