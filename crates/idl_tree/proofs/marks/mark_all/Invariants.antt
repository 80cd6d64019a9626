use Rattle.std.proofs.Common.{take}
use Rattle.idl_tree.specs.Marks.{Marked}
use Rattle.idl_tree.proofs.marks.mark_all.Given as goal

abbrev pub invariant-loop-place : goal.invariant-loop-place
invariant-loop-place l = Marked (take l.place-index l.places) l.initial.marks.items l.marks.items l.initial.taken.items l.taken.items
