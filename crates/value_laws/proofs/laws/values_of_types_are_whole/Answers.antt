use Rattle.value_laws.proofs.WholeOfType.{whole_of_type}
use Rattle.value_laws.proofs.laws.values_of_types_are_whole.Goals as goal

pub returns : goal.returns
returns c = λ scope of v fit. whole_of_type scope v of.prefixes of.core fit
