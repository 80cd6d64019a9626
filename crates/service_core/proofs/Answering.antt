-- what a service with registers answers
use Rattle.std.proofs.Common.{◌≡◌, ℕ, true, List, Option, Some, None, Ok, Err, refl, sym, ap, ◌∙◌, subst}
use Rattle.std.specs.List.{list_all, AllByRecursion}
use Rattle.typed_value.specs.declared.vals.Val.{Val}
use Rattle.sheet_form.specs.Kept.{goes_one_way}
use Rattle.sheet_form.specs.Rules.{AreTyped}
use Rattle.sheet_form.specs.declared.sheets.Contents.{Contents}
use Rattle.call_form.specs.declared.Call.{Call}
use Rattle.call_form.specs.declared.Outcome.{Outcome}
use Rattle.session_core.specs.Outcomes.{Fits}
use Rattle.session_core.specs.Tells.{tells_by}
use Rattle.service_core.specs.declared.requests.Request.{Request}
use Rattle.service_core.specs.declared.requests.Placed.{Placed}
use Rattle.service_core.specs.declared.requests.Placed.TheVariants.{Answered, Ask}
use Rattle.service_core.specs.declared.renderings.Rendering.{Rendering}
use Rattle.service_core.specs.Served.{IsServed}
use Rattle.service_core.specs.Places.{Way, placed, place_of}
use Rattle.service_core.specs.Outcomes.{outcome_of}
use Rattle.service_core.specs.Renders.{left_of}
use Rattle.service_core.specs.Runs.{AsksGood, Ran}
use Rattle.service_core.specs.States.{State}
use Rattle.service_core.specs.Tells.{tell_placed, tell_done, tell_of, stepped}
use Rattle.service_core.proofs.Fitting.{done_fits}
use Rattle.service_core.proofs.Good.{good}
use Rattle.service_core.proofs.Ways.{asks}

ask_way : (request : Request) (way : Way Request) → Ask request ≡ placed way → way ≡ Ok request
ask_way request (Ok other) is = let same : other ≡ request = (cc) in ap Ok same
ask_way request (Err reply) is = absurd (cc)

pub good_there : (sheet other : Contents) (call : Call) (there : Placed) → other ≡ sheet → AreTyped other.interfaces other.registers other.rules
    → list_all goes_one_way other.rules ≡ true → there ≡ placed (place_of sheet call) → AsksGood sheet there
good_there sheet other call (Answered outcome) of typed one_way is = tt
good_there sheet other call (Ask request) of typed one_way is =
    good sheet call request (asks sheet call request (ask_way request (place_of sheet call) is))
    (subst (λ (s : Contents). AreTyped s.interfaces s.registers s.rules) of typed)
    (subst (λ (s : Contents). list_all goes_one_way s.rules ≡ true) of one_way)

answered_way : (state : State) (outcome : Outcome) (way : Way Request) → Answered outcome ≡ placed way
    → (outcome ≡ (tell_placed state way).outcome) × (state ≡ (tell_placed state way).state)
answered_way state outcome (Ok request) is = absurd (cc)
answered_way state outcome (Err reply) is = ((cc), refl)

pub answered_told : (state : State) (call : Call) (outcome : Outcome) → Answered outcome ≡ placed (place_of state.sheet call)
    → tells_by tell_of state call outcome state
unfolding tell_of
answered_told state call outcome is = answered_way state outcome (place_of state.sheet call) is

pub ran_told : (state : State) (call : Call) (request : Request) (replies : Rendering) (after : List Val)
    → Ask request ≡ placed (place_of state.sheet call) → Ran state request replies after
    → tells_by tell_of state call (left_of replies) (record { sheet = state.sheet; registers = after })
unfolding tell_of
ran_told state call request replies after is ran =
    rw (ask_way request (place_of state.sheet call) is, ran.step_is) (ran.outcome, refl)

pub ran_fits : (state : State) (call : Call) (request : Request) (replies : Rendering) (after : List Val)
    → AllByRecursion IsServed state.sheet.interfaces
    → Ask request ≡ placed (place_of state.sheet call) → Ran state request replies after → Fits call (left_of replies)
ran_fits state call request replies after served is ran =
    subst (Fits call) (sym ran.outcome)
    (done_fits state.sheet call request (asks state.sheet call request (ask_way request (place_of state.sheet call) is)) served ran.done ran.comes)
