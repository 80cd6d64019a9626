use Rattle.std.proofs.Common.{◌≡◌, ◌^◌, max, min, map, drop}
use Rattle.idl_tree.specs.Form.{greatest}
use Rattle.idl_tree.specs.Names.{Bytes}
use Rattle.typed_value.specs.Sizes.{levels_of}
use Rattle.typed_value.specs.declared.vals.Val.{Val}
use Rattle.typed_value.proofs.sizes.+levels.Given as goal

abbrev pub invariant-most_levels-loop-value : goal.invariant-most_levels-loop-value
invariant-most_levels-loop-value l =
    max l.most (min (greatest (map levels_of (drop l.value-index l.values))) (2 ^ 63))
    ≡ min (greatest (map levels_of l.values)) (2 ^ 63)

abbrev pub invariant-most_entry_levels-loop-entry : goal.invariant-most_entry_levels-loop-entry
invariant-most_entry_levels-loop-entry l =
    max l.most (min (greatest (map (λ (entry : Bytes × Val). levels_of entry.1) (drop l.entry-index l.entries))) (2 ^ 63))
    ≡ min (greatest (map (λ (entry : Bytes × Val). levels_of entry.1) l.entries)) (2 ^ 63)
