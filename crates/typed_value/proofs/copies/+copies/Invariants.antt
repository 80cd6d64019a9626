use Rattle.std.proofs.Common.{◌≡◌, take}
use Rattle.typed_value.proofs.copies.+copies.Given as goal

abbrev pub invariant-copy_all-loop-value : goal.invariant-copy_all-loop-value
invariant-copy_all-loop-value l = l.copies ≡ take l.value-index l.values

abbrev pub invariant-copy_entries-loop-entry : goal.invariant-copy_entries-loop-entry
invariant-copy_entries-loop-entry l = l.copies ≡ take l.entry-index l.entries
