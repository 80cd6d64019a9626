use Rattle.step_laws.proofs.Steps.{begin_of_types}
use Rattle.step_laws.proofs.laws.initial_values_are_of_types.Goals as goal

pub returns : goal.returns
returns c = begin_of_types
