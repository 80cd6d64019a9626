use Rattle.sheet_rules.specs.Views.{setting_of}
use Rattle.rule_form.specs.Rules.{guard_formed}
use Rattle.rule_form.proofs.Behind.{each_more}
use Rattle.rule_form.proofs.branches.guards_formed.Goals as goal

pub loop-k-preserved : goal.loop-k-preserved
loop-k-preserved c =
    rw c.in_ok-push-in-Ok.ensures.ok (each_more (guard_formed (setting_of c.args.ground.now.standing) c.args.b)
    c.loop-k.k c.loop-k.guards c.index-drafts-k.result c.in-Ok.guard c.args.drafts.now _
    c.loop-k-test.true c.index-drafts-k.is c.loop-k.invariant c.in-Ok.ensures)
