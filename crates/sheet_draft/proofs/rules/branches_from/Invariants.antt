use Rattle.std.proofs.Common.{◌≡◌, length}
use Rattle.std.specs.Vec.Iter.{into_iter_items}
use Rattle.sheet_draft.specs.Sheets.{branches_from}
use Rattle.sheet_draft.proofs.Rests.{behind}
use Rattle.sheet_draft.proofs.rules.branches_from.Given as goal

abbrev pub invariant-loop-part : goal.invariant-loop-part
invariant-loop-part l =
    behind l.branches (branches_from l.name (length l.branches) (into_iter_items l.part-iterator))
    ≡ branches_from l.name 0 l.fn.parts
