use Rattle.step_laws.proofs.StructValues.{path_given}
use Rattle.step_laws.proofs.laws.paths_lead_to_values.Goals as goal

pub returns : goal.returns
returns c = path_given
