use Rattle.std.proofs.Common.{map}
use Rattle.idl_tree.proofs.Opened.{struct_opens, enum_opens}
use Rattle.idl_rules.specs.Canon.{Layout, Entry, body_step, core_step, field_step, type_step, field_entry, named_entry}
use Rattle.idl_print.proofs.RoomLaws.{bracket_room}
use Rattle.idl_print.proofs.rooms.+room.Goals as goal

pub body_room-returns-in-Struct : goal.body_room-returns-in-Struct
body_room-returns-in-Struct t c =
    let opened = struct_opens Layout Layout Entry Layout body_step core_step field_step type_step c.in-Struct.fields c.in-Struct.ending in
    rw (c.take.ensures, c.notes_room-left.ensures, c.fields_room.ensures, c.take-left.ensures, c.as_slice.ensures, c.as_slice-in-Struct.ensures, c.in-Struct.is, opened)
    (bracket_room (map field_entry c.in-Struct.fields) c.in-Struct.ending c.args.room)

pub body_room-returns-in-Enum : goal.body_room-returns-in-Enum
body_room-returns-in-Enum t c =
    let opened = enum_opens Layout Layout Entry Layout body_step core_step field_step type_step c.in-Enum.names c.in-Enum.ending in
    rw (c.take-in-Enum.ensures, c.notes_room-left-in-Enum.ensures, c.names_room.ensures, c.take-left.ensures, c.as_slice-in-Enum.ensures, c.as_slice-in-Enum-2.ensures, c.in-Enum.is, opened)
    (bracket_room (map named_entry c.in-Enum.names) c.in-Enum.ending c.args.room)
