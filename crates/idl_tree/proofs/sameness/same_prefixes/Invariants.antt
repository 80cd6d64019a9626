use Rattle.std.proofs.Common.{◌≡◌, drop, length}
use Rattle.idl_tree.specs.Same.{same_prefixes}
use Rattle.idl_tree.proofs.sameness.same_prefixes.Given as goal

abbrev pub invariant-loop-i : goal.invariant-loop-i
invariant-loop-i l = (length l.one ≡ length l.other)
    × (same_prefixes (drop l.i l.one) (drop l.i l.other) ≡ same_prefixes l.one l.other)
