use Rattle.step_laws.proofs.Referred.{found_given}
use Rattle.step_laws.proofs.laws.references_have_values.Goals as goal

pub returns : goal.returns
returns c = found_given
