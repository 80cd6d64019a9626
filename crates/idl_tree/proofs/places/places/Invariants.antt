use Rattle.std.proofs.Common.{take}
use Rattle.idl_tree.specs.Places.{TellsPlaces}
use Rattle.idl_tree.proofs.places.places.Given as goal

abbrev pub invariant-loop-place : goal.invariant-loop-place
invariant-loop-place l = TellsPlaces l.places l.space (take l.place l.members)
