use Rattle.std.proofs.Common.{◌≡◌, ◌≤◌, ◌^◌, ◌+◌, min, drop}
use Rattle.serde_json.specs.View.{items_view, members_view}
use Rattle.typed_value.specs.Sizes.{items_weight, members_weight}
use Rattle.typed_value.proofs.weights.+tree_weights.Given as goal

abbrev pub invariant-weigh_items-loop-item : goal.invariant-weigh_items-loop-item
invariant-weigh_items-loop-item l =
    record {
      told : l.total ≤ 2 ^ 63;
      left : min (l.total + items_weight (items_view (drop l.item-index l.item-items))) (2 ^ 63)
          ≡ min (items_weight (items_view l.item-items)) (2 ^ 63);
    }

abbrev pub invariant-weigh_members-loop-key : goal.invariant-weigh_members-loop-key
invariant-weigh_members-loop-key l =
    record {
      told : l.total ≤ 2 ^ 63;
      left : min (l.total + members_weight (members_view l.key-iterator)) (2 ^ 63)
          ≡ min (members_weight (members_view l.members.entries)) (2 ^ 63);
    }
