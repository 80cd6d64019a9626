use Rattle.std.proofs.Common.{take}
use Rattle.idl_compat.specs.Walks.{TellsFields}
use Rattle.idl_compat.proofs.names.places_of.Given as goal

abbrev pub invariant-loop-place : goal.invariant-loop-place
invariant-loop-place l = TellsFields l.places (take l.place l.fields)
