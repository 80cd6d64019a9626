use Rattle.std.proofs.Common.{◌≡◌, ◌++◌, take, drop}
use Rattle.sheet_step.specs.Registers.{without_entry}
use Rattle.sheet_step.proofs.entries.place_of.Given as goal

abbrev pub invariant-loop-place : goal.invariant-loop-place
invariant-loop-place l = without_entry l.key l.entries ≡ take l.place l.entries ++ without_entry l.key (drop l.place l.entries)
