use Rattle.std.proofs.Common.{◌≡◌, drop, length}
use Rattle.idl_tree.specs.Same.{same_names}
use Rattle.idl_tree.proofs.sameness.same_names.Given as goal

abbrev pub invariant-loop-i : goal.invariant-loop-i
invariant-loop-i l = (length l.one ≡ length l.other)
    × (same_names (drop l.i l.one) (drop l.i l.other) ≡ same_names l.one l.other)
