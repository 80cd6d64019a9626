use Rattle.std.proofs.Common.{◌≡◌, map, take, drop}
use Rattle.serde_json.specs.View.{view, members_view}
use Rattle.idl_tree.specs.Names.{Bytes}
use Rattle.typed_value.specs.Shows.{writer, or_null, with_entries, with_fields, entries_shown, fields_shown}
use Rattle.typed_value.specs.declared.vals.Val.{Val}
use Rattle.typed_value.proofs.showing.+writes.Given as goal

abbrev pub invariant-write_items-loop-value : goal.invariant-write_items-loop-value
invariant-write_items-loop-value l =
    map view l.items.items ≡ map (λ (v : Val). or_null (writer l.scope v l.prefixes l.core)) (take l.value-index l.values)

abbrev pub invariant-write_map-loop-entry : goal.invariant-write_map-loop-entry
invariant-write_map-loop-entry l =
    with_entries l.prefixes l.core (map (λ (entry : Bytes × Val). (entry.0, writer l.scope entry.1)) (drop l.entry-index l.entries)) (members_view l.members.entries)
    ≡ entries_shown l.scope l.prefixes l.core l.entries

abbrev pub invariant-write_struct-loop-place : goal.invariant-write_struct-loop-place
invariant-write_struct-loop-place l =
    with_fields (drop l.place l.fields) (map (writer l.scope) (drop l.place l.values)) (members_view l.members.entries)
    ≡ fields_shown l.scope l.fields l.values
