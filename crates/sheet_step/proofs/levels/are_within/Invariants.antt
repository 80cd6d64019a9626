use Rattle.std.proofs.Common.{◌≡◌, drop}
use Rattle.sheet_step.specs.Levels.{are_within}
use Rattle.sheet_step.proofs.levels.are_within.Given as goal

abbrev pub invariant-loop-val : goal.invariant-loop-val
invariant-loop-val l = are_within (drop l.val-index l.vals) ≡ are_within l.vals
