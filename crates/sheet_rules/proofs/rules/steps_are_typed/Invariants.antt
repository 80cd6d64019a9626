use Rattle.std.proofs.Common.{◌≡◌, drop}
use Rattle.std.specs.List.{list_all}
use Rattle.sheet_rules.specs.Steps.{step_is_typed}
use Rattle.sheet_rules.specs.Views.{setting_of}
use Rattle.sheet_rules.proofs.rules.steps_are_typed.Given as goal

abbrev pub invariant-loop-step : goal.invariant-loop-step
invariant-loop-step l =
    list_all (step_is_typed (setting_of l.standing)) (drop l.step-index l.steps) ≡ list_all (step_is_typed (setting_of l.standing)) l.steps
