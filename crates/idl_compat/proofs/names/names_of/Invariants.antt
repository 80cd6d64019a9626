use Rattle.std.proofs.Common.{take}
use Rattle.idl_compat.specs.Walks.{TellsNames}
use Rattle.idl_compat.proofs.names.names_of.Given as goal

abbrev pub invariant-loop-named : goal.invariant-loop-named
invariant-loop-named l = TellsNames l.known (take l.named-index l.names)
