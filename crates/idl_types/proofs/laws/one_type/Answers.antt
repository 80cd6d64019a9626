use Rattle.idl_types.proofs.Readings.{one_type}
use Rattle.idl_types.proofs.laws.one_type.Goals as goal

pub returns : goal.returns
returns c = one_type
