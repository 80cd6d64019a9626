use Rattle.step_laws.proofs.Whole.{keeps_types}
use Rattle.step_laws.proofs.laws.registers_keep_their_types.Goals as goal

pub returns : goal.returns
returns c = keeps_types
