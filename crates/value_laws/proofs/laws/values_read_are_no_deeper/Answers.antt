use Rattle.value_laws.proofs.ReadDepths.{reads_no_deeper}
use Rattle.value_laws.proofs.laws.values_read_are_no_deeper.Goals as goal

pub returns : goal.returns
returns c = λ scope of tree v reads. reads_no_deeper scope tree of.prefixes of.core v reads
