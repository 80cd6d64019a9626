use Rattle.typed_value.proofs.ReadsFit.{reads_fit}
use Rattle.value_laws.proofs.laws.values_read_are_of_the_type.Goals as goal

pub returns : goal.returns
returns c = λ scope of tree v reads. reads_fit scope tree of.prefixes of.core v reads
