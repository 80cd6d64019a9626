use Rattle.std.proofs.Common.{◌≡◌, ◌++◌, drop, map, length, codes}
use Rattle.std.specs.List.{list_any, flat_map}
use Rattle.idl_rules.specs.Canon.{is_noted, field_entry}
use Rattle.idl_print.specs.Room.{room_left}
use Rattle.idl_print.proofs.rooms.+room.Given as goal

abbrev pub invariant-fields_room-loop-field : goal.invariant-fields_room-loop-field
invariant-fields_room-loop-field l =
    room_left (list_any is_noted (map field_entry (drop l.field-index l.others)))
    (length (flat_map (λ next. codes ", " ++ next.text.flat) (map field_entry (drop l.field-index l.others)))) l.left
    ≡ room_left (list_any is_noted (map field_entry l.others))
    (length (flat_map (λ next. codes ", " ++ next.text.flat) (map field_entry l.others))) l.initial.left
