use Rattle.std.proofs.Common.{◌≡◌, drop}
use Rattle.sheet_rules.specs.Views.{setting_of}
use Rattle.rule_form.specs.Rules.{each_formed, guard_formed}
use Rattle.rule_form.proofs.Behind.{behind}
use Rattle.rule_form.proofs.branches.guards_formed.Given as goal

abbrev pub invariant-loop-k : goal.invariant-loop-k
invariant-loop-k l =
    behind l.guards (each_formed (guard_formed (setting_of l.ground.standing) l.b) l.k (drop l.k l.drafts))
    ≡ each_formed (guard_formed (setting_of l.ground.standing) l.b) 0 l.drafts
