use Rattle.std.proofs.Common.{◌≡◌, length}
use Rattle.typed_value.specs.Bodies.{behind_maybes}
use Rattle.typed_value.proofs.prefixes.behind_maybes.Given as goal

abbrev pub invariant-loop-rest : goal.invariant-loop-rest
invariant-loop-rest l = behind_maybes l.rest ≡ behind_maybes l.prefixes

abbrev pub decreases-loop-rest : goal.decreases-loop-rest
decreases-loop-rest l = length l.rest
