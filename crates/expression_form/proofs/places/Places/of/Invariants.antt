use Rattle.std.proofs.Common.{take}
use Rattle.expression_form.specs.Places.{Finds}
use Rattle.expression_form.proofs.places.Places.of.Given as goal

abbrev pub invariant-loop-place : goal.invariant-loop-place
invariant-loop-place l = Finds l.by_name (take l.place l.registers)
