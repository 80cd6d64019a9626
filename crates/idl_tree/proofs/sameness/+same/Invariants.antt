use Rattle.std.proofs.Common.{◌≡◌, drop, length}
use Rattle.idl_tree.specs.Same.{same_fields}
use Rattle.idl_tree.proofs.sameness.+same.Given as goal

abbrev pub invariant-same_fields-loop-i : goal.invariant-same_fields-loop-i
invariant-same_fields-loop-i l = (length l.one ≡ length l.other)
    × (same_fields (drop l.i l.one) (drop l.i l.other) ≡ same_fields l.one l.other)
