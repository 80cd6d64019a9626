use Rattle.std.proofs.Common.{◌≡◌, drop}
use Rattle.std.specs.List.{list_all}
use Rattle.sheet_rules.specs.Rules.{is_of_kind}
use Rattle.sheet_rules.proofs.rules.are_of_kind.Given as goal

abbrev pub invariant-loop-branch : goal.invariant-loop-branch
invariant-loop-branch l =
    list_all (is_of_kind l.first) (drop l.branch-index l.branches) ≡ list_all (is_of_kind l.first) l.branches
