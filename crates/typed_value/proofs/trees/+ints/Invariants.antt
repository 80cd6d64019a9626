use Rattle.std.proofs.Common.{◌≡◌, true, drop}
use Rattle.std.specs.List.Sorted.{IsStrictlySortedBy}
use Rattle.std.specs.Map.{keys_of}
use Rattle.std.specs.String.{string_cmp}
use Rattle.serde_json.specs.View.{items_view, members_view}
use Rattle.typed_value.specs.Ints.{items_have_only_ints, members_have_only_ints}
use Rattle.typed_value.specs.KeyOrder.{items_are_as_read, members_are_as_read}
use Rattle.typed_value.proofs.trees.+ints.Given as goal

abbrev pub invariant-items_have_only_ints-loop-item : goal.invariant-items_have_only_ints-loop-item
invariant-items_have_only_ints-loop-item l =
    record {
      ints : items_have_only_ints (items_view (drop l.item-index l.item-items)) ≡ items_have_only_ints (items_view l.item-items);
      order : items_are_as_read (items_view (drop l.item-index l.item-items)) ≡ true → items_are_as_read (items_view l.item-items) ≡ true;
    }

abbrev pub invariant-members_have_only_ints-loop-member : goal.invariant-members_have_only_ints-loop-member
invariant-members_have_only_ints-loop-member l =
    record {
      ints : members_have_only_ints (members_view l.member-iterator) ≡ members_have_only_ints (members_view l.members.entries);
      sorted : IsStrictlySortedBy string_cmp (keys_of l.member-iterator);
      order : members_are_as_read (members_view l.member-iterator) ≡ true → members_are_as_read (members_view l.members.entries) ≡ true;
    }
