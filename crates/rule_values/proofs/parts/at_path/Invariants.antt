use Rattle.std.proofs.Common.{◌≡◌, drop}
use Rattle.rule_values.specs.Parts.{at_path}
use Rattle.rule_values.proofs.parts.at_path.Given as goal

abbrev pub invariant-loop-place : goal.invariant-loop-place
invariant-loop-place l = at_path (drop l.place-index l.path) l.at ≡ at_path l.path l.val
