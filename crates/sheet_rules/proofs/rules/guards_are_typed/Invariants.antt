use Rattle.std.proofs.Common.{◌≡◌, drop}
use Rattle.std.specs.List.{list_all}
use Rattle.sheet_rules.specs.Conditions.{guard_is_typed}
use Rattle.sheet_rules.specs.Views.{setting_of}
use Rattle.sheet_rules.proofs.rules.guards_are_typed.Given as goal

abbrev pub invariant-loop-guard : goal.invariant-loop-guard
invariant-loop-guard l =
    list_all (guard_is_typed (setting_of l.standing)) (drop l.guard-index l.guards) ≡ list_all (guard_is_typed (setting_of l.standing)) l.guards
