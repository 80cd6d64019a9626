use Rattle.idl_tree.specs.Faults.{defines}
use Rattle.idl_compat.proofs.Reading.{struct_within}
use Rattle.idl_compat.proofs.laws.structs_within_read.Goals as goal

pub returns : goal.returns
returns c = λ from to body by v good names h w fit. struct_within (from, to) (defines from) good body by v names h w fit
