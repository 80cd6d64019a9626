use Rattle.std.proofs.Common.{◌≡◌, drop}
use Rattle.sheet_rules.specs.Views.{setting_of}
use Rattle.rule_form.specs.Rules.{each_formed, branch_formed}
use Rattle.rule_form.proofs.Behind.{behind}
use Rattle.rule_form.proofs.branches.branches_after.Given as goal

abbrev pub invariant-loop-b : goal.invariant-loop-b
invariant-loop-b l =
    behind l.branches (each_formed (branch_formed (setting_of l.ground.standing) l.first) l.b (drop l.b l.drafts))
    ≡ each_formed (branch_formed (setting_of l.ground.standing) l.first) 0 l.drafts
