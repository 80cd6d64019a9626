use Rattle.value_laws.proofs.ShownDepths.{shows_no_deeper}
use Rattle.value_laws.proofs.laws.shown_values_are_no_deeper.Goals as goal

pub returns : goal.returns
returns c = λ scope of v. shows_no_deeper scope v of.prefixes of.core
