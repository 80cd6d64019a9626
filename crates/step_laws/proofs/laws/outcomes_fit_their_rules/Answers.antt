use Rattle.step_laws.proofs.Whole.{comes_to_fit}
use Rattle.step_laws.proofs.laws.outcomes_fit_their_rules.Goals as goal

pub returns : goal.returns
returns c = comes_to_fit
