use Rattle.std.proofs.Common.{◌≡◌, ◌≤◌, ◌+◌, ◌*◌, map, drop}
use Rattle.serde_json.specs.Data.{depth, items_depth, members_depth}
use Rattle.serde_json.specs.View.{view, items_view, members_view}
use Rattle.typed_value.specs.Parts.{field_at, item_reads, member_reads}
use Rattle.typed_value.specs.Reads.{all_of}
use Rattle.typed_value.proofs.Rests.{after}
use Rattle.typed_value.proofs.reading.+reading.Given as goal

abbrev pub decreases-read_type : goal.decreases-read_type
decreases-read_type l = 8 * depth (view l.json.now) + 5

abbrev pub decreases-read_plain : goal.decreases-read_plain
decreases-read_plain l = 8 * depth (view l.json.now) + 4

abbrev pub decreases-read_array : goal.decreases-read_array
decreases-read_array l = 8 * depth (view l.json.now) + 3

abbrev pub decreases-read_map : goal.decreases-read_map
decreases-read_map l = 8 * depth (view l.json.now) + 3

abbrev pub decreases-read_core : goal.decreases-read_core
decreases-read_core l = 8 * depth (view l.json.now) + 3

abbrev pub decreases-read_body : goal.decreases-read_body
decreases-read_body l = 8 * depth (view l.json.now) + 2

abbrev pub decreases-read_struct : goal.decreases-read_struct
decreases-read_struct l = 8 * depth (view l.json.now) + 1

abbrev pub decreases-read_field : goal.decreases-read_field
decreases-read_field l = 8 * depth (view l.json.now)

abbrev pub decreases-read_items : goal.decreases-read_items
decreases-read_items l = 8 * items_depth (items_view l.items.now.items) + 7

abbrev pub decreases-read_members : goal.decreases-read_members
decreases-read_members l = 8 * members_depth (members_view l.members.now.entries) + 7

abbrev pub invariant-read_items-loop-item : goal.invariant-read_items-loop-item
invariant-read_items-loop-item l =
    after l.values (all_of (item_reads l.scope l.prefixes l.core (items_view (drop l.item-index l.item-items))))
    ≡ all_of (item_reads l.scope l.prefixes l.core (items_view l.item-items))

abbrev pub invariant-read_members-loop-key : goal.invariant-read_members-loop-key
invariant-read_members-loop-key l =
    record {
      left : after l.entries (all_of (member_reads l.scope l.prefixes l.core (members_view l.key-iterator)))
          ≡ all_of (member_reads l.scope l.prefixes l.core (members_view l.members.entries));
      within : members_depth (members_view l.key-iterator) ≤ members_depth (members_view l.members.entries);
    }

abbrev pub invariant-read_struct-loop-field : goal.invariant-read_struct-loop-field
invariant-read_struct-loop-field l =
    after l.values (all_of (map (field_at l.scope (view l.json)) (drop l.field-index l.fields)))
    ≡ all_of (map (field_at l.scope (view l.json)) l.fields)
