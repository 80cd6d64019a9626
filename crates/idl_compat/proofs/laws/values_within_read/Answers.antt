use Rattle.std.proofs.Common.{sym, ◌∙◌}
use Rattle.idl_tree.specs.Faults.{defines}
use Rattle.value_laws.proofs.GoodBodies.{type_core}
use Rattle.idl_compat.proofs.Reading.{reads}
use Rattle.idl_compat.proofs.laws.values_within_read.Goals as goal

pub returns : goal.returns
returns c = λ from to of by v good names w fit.
    reads (from, to) (defines from) good v of.prefixes of.core by.prefixes by.core (sym (type_core (defines from) of) ∙ names) w fit
