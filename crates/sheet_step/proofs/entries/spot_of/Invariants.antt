use Rattle.std.proofs.Common.{◌≡◌, ◌++◌, take, drop}
use Rattle.typed_value.specs.declared.vals.Val.{Val}
use Rattle.sheet_step.specs.Registers.{with_entry}
use Rattle.sheet_step.proofs.entries.spot_of.Given as goal

abbrev pub invariant-loop-place : goal.invariant-loop-place
invariant-loop-place l = (v : Val) → with_entry l.key v l.entries ≡ take l.place l.entries ++ with_entry l.key v (drop l.place l.entries)
