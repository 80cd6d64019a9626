use Rattle.expression_form.proofs.MadeGives.{made_gives}
use Rattle.expression_form.proofs.laws.expressions_made_give.Goals as goal

pub returns : goal.returns
returns c = made_gives
