use Rattle.std.proofs.Common.{◌≡◌, ◌++◌, drop, map, length, codes}
use Rattle.std.specs.List.{list_any, flat_map}
use Rattle.idl_rules.specs.Canon.{is_noted, named_entry}
use Rattle.idl_print.specs.Room.{room_left}
use Rattle.idl_print.proofs.rooms.names_room.Given as goal

abbrev pub invariant-loop-named : goal.invariant-loop-named
invariant-loop-named l =
    room_left (list_any is_noted (map named_entry (drop l.named-index l.others)))
    (length (flat_map (λ next. codes ", " ++ next.text.flat) (map named_entry (drop l.named-index l.others)))) l.left
    ≡ room_left (list_any is_noted (map named_entry l.others))
    (length (flat_map (λ next. codes ", " ++ next.text.flat) (map named_entry l.others))) l.initial.left
