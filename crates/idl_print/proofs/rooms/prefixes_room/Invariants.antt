use Rattle.std.proofs.Common.{◌≡◌, false, drop, length}
use Rattle.std.specs.List.{flat_map}
use Rattle.idl_rules.specs.Canon.{prefix_text}
use Rattle.idl_print.specs.Room.{room_left}
use Rattle.idl_print.proofs.rooms.prefixes_room.Given as goal

abbrev pub invariant-loop-prefix : goal.invariant-loop-prefix
invariant-loop-prefix l =
    room_left false (length (flat_map prefix_text (drop l.prefix-index l.prefixes))) l.left
    ≡ room_left false (length (flat_map prefix_text l.prefixes)) l.fn.room
