-- What a service with registers answers to a call, and its registers after it.
use Rattle.std.specs.Prelude.{ℕ, List, [], Option, Some, None, Ok, Err, map, slice_get}
use Rattle.typed_value.specs.declared.vals.Val.{Val}
use Rattle.sheet_rules.specs.declared.forms.Register.{Register}
use Rattle.sheet_step.specs.Step.{step}
use Rattle.sheet_step.specs.declared.dones.Done.{Done}
use Rattle.sheet_form.specs.declared.sheets.Contents.{Contents}
use Rattle.call_form.specs.declared.Call.{Call}
use Rattle.call_form.specs.declared.Outcome.{Outcome}
use Rattle.session_core.specs.Tells.{Tell, Tale, tale_of}
use Rattle.service_core.specs.declared.requests.Request.{Request}
use Rattle.service_core.specs.Sheets.{◌>>=◌}
use Rattle.service_core.specs.Places.{Way, place_of, one}
use Rattle.service_core.specs.Outcomes.{outcome_of, without_raw}
use Rattle.service_core.specs.States.{State}

-- a request is one step of its rule on the registers
abbrev pub stepped : State → Request → Option (Done × List Val)
stepped state request = do
  rule ← slice_get state.sheet.rules request.rule
  home ← slice_get state.sheet.interfaces rule.interface
  step home.name rule.branches request.parameters state.registers

abbrev pub tell : State → Outcome → List Val → Tell State
tell state outcome after = record { outcome = outcome; state = record { sheet = state.sheet; registers = after } }

-- a step on registers of their types always comes to something
abbrev pub tell_done : State → Request → Option (Done × List Val) → Tell State
tell_done state request (Some (done, after)) = tell state (outcome_of state.sheet request.rule done) after
tell_done state request None = tell state (without_raw []) state.registers

-- the reply where no rule is asked, and the same registers; else the outcome of the rule's step, and the registers
-- after it
abbrev pub tell_placed : State → Way Request → Tell State
tell_placed state (Err reply) = tell state (one reply) state.registers
tell_placed state (Ok request) = tell_done state request (stepped state request)

unfoldable pub tell_of : State → Call → Tell State
tell_of state call = tell_placed state (place_of state.sheet call)

-- a sheet with the registers that it begins with
abbrev pub started : Contents → State
started sheet = record { sheet = sheet; registers = map (λ (register : Register). register.initial) sheet.registers }

-- the outcomes of calls in a row, and the last state
abbrev pub lone : Contents → List Call → Tale State
lone sheet calls = tale_of tell_of (started sheet) calls
