use Rattle.std.proofs.Common.{◌≡◌, ◌≤◌, take, length}
use Rattle.std.specs.Prelude.{vec_len, vec_capacity}
use Rattle.sheet_step.proofs.registers.copies.Given as goal

abbrev pub invariant-loop-val : goal.invariant-loop-val
invariant-loop-val l = record {
  so_far : l.copies.items ≡ take l.val-index l.vals;
  count : vec_len l.copies ≡ l.val-index;
  room : length l.vals ≤ vec_capacity l.copies;
}
