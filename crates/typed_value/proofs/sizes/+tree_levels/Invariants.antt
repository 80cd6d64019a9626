use Rattle.std.proofs.Common.{◌≡◌, ◌^◌, max, min, drop}
use Rattle.serde_json.specs.Data.{items_depth, members_depth}
use Rattle.serde_json.specs.View.{items_view, members_view}
use Rattle.typed_value.proofs.sizes.+tree_levels.Given as goal

abbrev pub invariant-most_item_levels-loop-item : goal.invariant-most_item_levels-loop-item
invariant-most_item_levels-loop-item l =
    max l.most (min (items_depth (items_view (drop l.item-index l.item-items))) (2 ^ 63))
    ≡ min (items_depth (items_view l.item-items)) (2 ^ 63)

abbrev pub invariant-most_member_levels-loop-member : goal.invariant-most_member_levels-loop-member
invariant-most_member_levels-loop-member l =
    max l.most (min (members_depth (members_view l.member-iterator)) (2 ^ 63))
    ≡ min (members_depth (members_view l.members.entries)) (2 ^ 63)
