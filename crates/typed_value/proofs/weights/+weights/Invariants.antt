use Rattle.std.proofs.Common.{◌≡◌, ◌≤◌, ◌^◌, ◌+◌, min, map, sum, length, drop}
use Rattle.idl_tree.specs.Names.{Bytes}
use Rattle.typed_value.specs.Sizes.{weight_of}
use Rattle.typed_value.specs.declared.vals.Val.{Val}
use Rattle.typed_value.proofs.weights.+weights.Given as goal

abbrev pub invariant-weigh_all-loop-value : goal.invariant-weigh_all-loop-value
invariant-weigh_all-loop-value l =
    record {
      told : l.total ≤ 2 ^ 63;
      left : min (l.total + sum (map weight_of (drop l.value-index l.values))) (2 ^ 63)
          ≡ min (sum (map weight_of l.values)) (2 ^ 63);
    }

abbrev pub invariant-weigh_entries-loop-entry : goal.invariant-weigh_entries-loop-entry
invariant-weigh_entries-loop-entry l =
    record {
      told : l.total ≤ 2 ^ 63;
      left : min (l.total + sum (map (λ (entry : Bytes × Val). length entry.0 + weight_of entry.1) (drop l.entry-index l.entries))) (2 ^ 63)
          ≡ min (sum (map (λ (entry : Bytes × Val). length entry.0 + weight_of entry.1) l.entries)) (2 ^ 63);
    }
