use Rattle.std.proofs.Common.{◌≡◌, ◌↔◌, ◌≤◌, ◌+◌, ◌*◌, true, length, take, map}
use Rattle.serde_json.specs.View.{view, items_view, members_view}
use Rattle.serde_json.specs.Data.{depth, items_depth, members_depth}
use Rattle.typed_value.specs.Ints.{members_have_only_ints}
use Rattle.typed_value.proofs.equal_trees.+trees.Given as goal

abbrev pub invariant-same_items-loop-i : goal.invariant-same_items-loop-i
invariant-same_items-loop-i l = (length l.one ≡ length l.other) × (map view (take l.i l.one) ≡ map view (take l.i l.other))

abbrev pub invariant-same_members-loop-key : goal.invariant-same_members-loop-key
invariant-same_members-loop-key l =
    record {
      within : members_depth (members_view l.key-iterator) ≤ members_depth (members_view l.one.entries);
      left : (members_view l.one.entries ≡ members_view l.other.entries) ↔ (members_view l.key-iterator ≡ members_view l.others);
      one : members_have_only_ints (members_view l.key-iterator) ≡ true;
      other : members_have_only_ints (members_view l.others) ≡ true;
    }

abbrev pub decreases-same_tree : goal.decreases-same_tree
decreases-same_tree l = 2 * depth (view l.one.now)

abbrev pub decreases-same_items : goal.decreases-same_items
decreases-same_items l = 2 * items_depth (items_view l.one.now) + 1

abbrev pub decreases-same_members : goal.decreases-same_members
decreases-same_members l = 2 * members_depth (members_view l.one.now.entries) + 1
