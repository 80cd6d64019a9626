use Rattle.rule_form.proofs.Bounded.{told}
use Rattle.rule_form.proofs.laws.floats_are_told.Goals as goal

pub returns : goal.returns
returns c = told
