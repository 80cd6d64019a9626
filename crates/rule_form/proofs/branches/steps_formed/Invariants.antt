use Rattle.std.proofs.Common.{◌≡◌, drop}
use Rattle.sheet_rules.specs.Views.{setting_of}
use Rattle.rule_form.specs.Rules.{each_formed, step_formed}
use Rattle.rule_form.proofs.Behind.{behind}
use Rattle.rule_form.proofs.branches.steps_formed.Given as goal

abbrev pub invariant-loop-k : goal.invariant-loop-k
invariant-loop-k l =
    behind l.steps (each_formed (step_formed (setting_of l.ground.standing) l.b) l.k (drop l.k l.drafts))
    ≡ each_formed (step_formed (setting_of l.ground.standing) l.b) 0 l.drafts
