use Rattle.std.proofs.Common.{◌≡◌, length}
use Rattle.sheet_step.specs.Undoing.{all_undone}
use Rattle.sheet_step.proofs.backs.undo_all.Given as goal

abbrev pub invariant-loop-last : goal.invariant-loop-last
invariant-loop-last l = all_undone l.undos.items l.registers.items ≡ all_undone l.fn.undos.items l.fn.registers.items

abbrev pub decreases-loop-last : goal.decreases-loop-last
decreases-loop-last l = length l.undos.items
