use Rattle.step_laws.proofs.Expressions.{expr_given}
use Rattle.step_laws.proofs.laws.expressions_have_values.Goals as goal

pub returns : goal.returns
returns c = expr_given
