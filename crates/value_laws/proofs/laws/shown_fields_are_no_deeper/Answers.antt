use Rattle.value_laws.proofs.ShownDepths.{struct_no_deeper}
use Rattle.value_laws.proofs.laws.shown_fields_are_no_deeper.Goals as goal

pub returns : goal.returns
returns c = struct_no_deeper
