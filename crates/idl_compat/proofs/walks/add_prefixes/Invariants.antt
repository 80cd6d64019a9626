use Rattle.std.proofs.Common.{◌≡◌, ◌≤◌, ◌++◌, length, drop, reverse}
use Rattle.idl_compat.specs.Walks.{words_of}
use Rattle.idl_compat.proofs.walks.add_prefixes.Given as goal

abbrev pub invariant-loop-left : goal.invariant-loop-left
invariant-loop-left l =
    record {
      within : l.left ≤ length l.prefixes;
      done : reverse l.words.items ≡ words_of (drop l.left l.prefixes) ++ reverse l.initial.words.items;
    }

abbrev pub decreases-loop-left : goal.decreases-loop-left
decreases-loop-left l = l.left
