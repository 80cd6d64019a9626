use Rattle.step_laws.proofs.FittingTypes.{fits_of}
use Rattle.step_laws.proofs.laws.fitting_types_have_the_values.Goals as goal

pub returns : goal.returns
returns c = fits_of
