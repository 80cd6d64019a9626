-- Replies that are there, or are made when they are asked for.
use Rattle.std.specs.Prelude.{◌≡◌, ℕ, false, ⊤, List, Option, Some, None, Ok, Err}
use Rattle.typed_value.specs.declared.vals.Val.{Val}
use Rattle.sheet_step.specs.declared.dones.Done.{Done}
use Rattle.sheet_step.specs.declared.dones.Done.TheVariants as done
use Rattle.sheet_form.specs.declared.sheets.Contents.{Contents}
use Rattle.call_form.specs.declared.Call.{Call}
use Rattle.call_form.specs.declared.Outcome.{Outcome}
use Rattle.session_core.specs.Outcomes.{Fits}
use Rattle.service_core.specs.declared.requests.Placed.{Placed}
use Rattle.service_core.specs.declared.requests.Placed.TheVariants.{Answered, Ask}
use Rattle.service_core.specs.declared.renderings.Rendering.{Rendering}
use Rattle.service_core.specs.declared.renderings.Rendering.TheVariants.{Given, Late, Upgrade}
use Rattle.service_core.specs.declared.requests.Request.{Request}
use Rattle.service_core.specs.Lates.{Held, left_late}
use Rattle.service_core.specs.Upgrades.{Accepted, left_accepted}
use Rattle.service_core.specs.Places.{Way}
use Rattle.service_core.specs.States.{State}
use Rattle.service_core.specs.Tells.{stepped}

abbrev pub left_of : Rendering → Outcome
left_of (Given outcome) = outcome
left_of (Late late) = left_late late
left_of (Upgrade upgrade) = left_accepted upgrade

abbrev pub IsGiven : Rendering → Type 0
IsGiven (Given outcome) = ⊤
IsGiven (Late late) = ⊥
IsGiven (Upgrade upgrade) = ⊥

abbrev pub IsLate : Held → Rendering → Type 0
IsLate held (Given outcome) = ⊥
IsLate held (Late late) = late ≡ held
IsLate held (Upgrade upgrade) = ⊥

abbrev pub IsAccepted : Accepted → Rendering → Type 0
IsAccepted accepted (Given outcome) = ⊥
IsAccepted accepted (Late late) = ⊥
IsAccepted accepted (Upgrade upgrade) = upgrade ≡ accepted

-- replies are kept as their values and are still to be made, from the first one on, and so is the one that accepts an
-- upgrade; a refusal is there
abbrev pub Renders : Contents → ℕ → Done → Rendering → Type 0
Renders sheet rule (done.Replies values) rendering = IsLate (record { sheet = sheet; rule = rule; values = values; next = 0 }) rendering
Renders sheet rule (done.Upgrade raw value) rendering =
    IsAccepted (record { sheet = sheet; rule = rule; raw = raw; value = value; given = false }) rendering
Renders sheet rule other rendering = IsGiven rendering

-- the step was refused, so that it changed nothing: its reply alone is made at once, which may want memory
abbrev pub Refuses : Done → Type 0
Refuses (done.Replies values) = ⊥
Refuses (done.Upgrade raw value) = ⊥
Refuses other = ⊤

abbrev pub RendersStep : Contents → ℕ → Option (Done × List Val) → Rendering → Type 0
RendersStep sheet rule (Some (done, after)) rendering = Renders sheet rule done rendering
RendersStep sheet rule None rendering = ⊥

-- the replies of a step are still to be made exactly where a rule is asked and comes to replies or an upgrade
abbrev pub RendersPlaced : State → Way Request → Rendering → Type 0
RendersPlaced state (Err reply) rendering = IsGiven rendering
RendersPlaced state (Ok request) rendering = RendersStep state.sheet request.rule (stepped state request) rendering

-- where it is answered at once, by an outcome that fits the call
abbrev pub PlacedFits : Call → Placed → Type 0
PlacedFits call (Answered outcome) = Fits call outcome
PlacedFits call (Ask request) = ⊤
