use Rattle.std.proofs.Common.{◌≡◌, drop}
use Rattle.std.specs.List.{list_all}
use Rattle.sheet_rules.specs.Rules.{branch_is_typed}
use Rattle.sheet_rules.specs.Views.{setting_of}
use Rattle.sheet_rules.proofs.rules.branches_are_typed.Given as goal

abbrev pub invariant-loop-branch : goal.invariant-loop-branch
invariant-loop-branch l =
    list_all (branch_is_typed (setting_of l.standing)) (drop l.branch-index l.branches) ≡ list_all (branch_is_typed (setting_of l.standing)) l.branches
