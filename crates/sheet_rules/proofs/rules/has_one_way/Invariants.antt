use Rattle.std.proofs.Common.{◌≡◌, length}
use Rattle.sheet_rules.specs.Rules.{has_one_way}
use Rattle.sheet_rules.proofs.rules.has_one_way.Given as goal

abbrev pub invariant-loop-rest : goal.invariant-loop-rest
invariant-loop-rest l = has_one_way l.rest ≡ has_one_way l.branches

abbrev pub decreases-loop-rest : goal.decreases-loop-rest
decreases-loop-rest l = length l.rest
