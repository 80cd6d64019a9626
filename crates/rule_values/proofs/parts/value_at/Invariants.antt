use Rattle.std.proofs.Common.{◌≡◌, drop}
use Rattle.rule_values.specs.Meanings.{value_at}
use Rattle.rule_values.proofs.parts.value_at.Given as goal

abbrev pub invariant-loop-entry : goal.invariant-loop-entry
invariant-loop-entry l = value_at l.key (drop l.entry-index l.entries) ≡ value_at l.key l.entries
