use Rattle.step_laws.proofs.Whole.{runs}
use Rattle.step_laws.proofs.laws.typed_rules_run.Goals as goal

pub returns : goal.returns
returns c = runs
