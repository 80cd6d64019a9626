use Rattle.std.proofs.Common.{◌≡◌, ◌+◌, ◌*◌, length, map, take}
use Rattle.idl_tree.specs.Form.{greatest}
use Rattle.idl_tree.specs.Names.{Bytes}
use Rattle.typed_value.specs.Sizes.{levels_of}
use Rattle.typed_value.specs.declared.vals.Val.{Val}
use Rattle.typed_value.proofs.equality.+same.Given as goal

abbrev pub invariant-same_all-loop-i : goal.invariant-same_all-loop-i
invariant-same_all-loop-i l = (length l.one ≡ length l.other) × (take l.i l.one ≡ take l.i l.other)

abbrev pub invariant-same_entries-loop-i : goal.invariant-same_entries-loop-i
invariant-same_entries-loop-i l = (length l.one ≡ length l.other) × (take l.i l.one ≡ take l.i l.other)

abbrev pub decreases-same : goal.decreases-same
decreases-same l = 3 * levels_of l.one.now

abbrev pub decreases-same_all : goal.decreases-same_all
decreases-same_all l = 3 * greatest (map levels_of l.one.now) + 2

abbrev pub decreases-same_entries : goal.decreases-same_entries
decreases-same_entries l = 3 * greatest (map (λ (entry : Bytes × Val). levels_of entry.1) l.one.now) + 2

abbrev pub decreases-same_entry : goal.decreases-same_entry
decreases-same_entry l = 3 * levels_of l.one.now.1 + 1
