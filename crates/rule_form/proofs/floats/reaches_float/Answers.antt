use Rattle.rule_form.proofs.Bounded.{told_by}
use Rattle.rule_form.proofs.floats.reaches_float.Goals as goal

pub returns : goal.returns
returns c = told_by c.args.scope.now c.args.body.now c.body_reaches_float.result c.body_reaches_float.ensures
