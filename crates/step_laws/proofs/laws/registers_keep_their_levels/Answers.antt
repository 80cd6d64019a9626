use Rattle.step_laws.proofs.Whole.{keeps_levels}
use Rattle.step_laws.proofs.laws.registers_keep_their_levels.Goals as goal

pub returns : goal.returns
returns c = keeps_levels
