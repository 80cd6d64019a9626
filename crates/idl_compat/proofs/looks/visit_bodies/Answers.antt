use Rattle.std.proofs.Common.{◌∙◌}
use Rattle.idl_compat.specs.Within.{field_steps, has_all}
use Rattle.idl_compat.proofs.Looking.{moved_same}
use Rattle.idl_compat.proofs.ByKinds.{structs_line, enums_line, struct_enum_line, enum_struct_line, line_of, steps_at, visited_if, stops_here, visited_where}
use Rattle.idl_compat.proofs.looks.visit_bodies.Goals as goal

pub look_at_fields-requires-clause-steps : goal.look_at_fields-requires-clause-steps
look_at_fields-requires-clause-steps c =
    rw (c.as_slice.ensures, c.as_slice-in-Struct-body-2.ensures)
    (steps_at c.args.walk.now.from.now c.args.walk.now.to.now c.args.given.now.body.now c.args.read.now.body.now c.args.trail.now.items c.args.place
    (field_steps c.in-Struct.fields c.in-Struct-body.others)
    (line_of c.args.given.now.body.now c.args.read.now.body.now _ _ c.in-Struct.is c.in-Struct-body.is ∙ structs_line c.in-Struct.fields c.in-Struct-body.others c.in-Struct.ending c.in-Struct-body.ending)
    c.requires.at)

pub returns-in_ok-places_of-in-Struct-body-clause-visited :
    goal.returns-in_ok-places_of-in-Struct-body-clause-visited
returns-in_ok-places_of-in-Struct-body-clause-visited c =
    visited_if c.args.walk.now.from.now c.args.walk.now.to.now c.args.given.now.body.now c.args.read.now.body.now c.look_at_fields.new.seen
    (field_steps c.in-Struct.fields c.in-Struct-body.others) c.look_at_fields.result
    (line_of c.args.given.now.body.now c.args.read.now.body.now _ _ c.in-Struct.is c.in-Struct-body.is ∙ structs_line c.in-Struct.fields c.in-Struct-body.others c.in-Struct.ending c.in-Struct-body.ending)
    (rw (c.as_slice.ensures, c.as_slice-in-Struct-body-2.ensures) at c.look_at_fields.ensures.looked)

pub returns-in-Enum-body-clause-moved : goal.returns-in-Enum-body-clause-moved
returns-in-Enum-body-clause-moved c = moved_same c.args.walk.now.from.now c.args.walk.now.to.now c.args.seen.now c.args.trail.now.items

pub returns-in-Enum-body-clause-visited : goal.returns-in-Enum-body-clause-visited
returns-in-Enum-body-clause-visited c =
    stops_here c.args.walk.now.from.now c.args.walk.now.to.now c.args.given.now.body.now c.args.read.now.body.now
    (line_of c.args.given.now.body.now c.args.read.now.body.now _ _ c.in-Struct.is c.in-Enum-body.is ∙ struct_enum_line c.in-Struct.fields c.in-Enum-body.names c.in-Struct.ending c.in-Enum-body.ending)

pub returns-in-Struct-body-2-clause-moved : goal.returns-in-Struct-body-2-clause-moved
returns-in-Struct-body-2-clause-moved c = moved_same c.args.walk.now.from.now c.args.walk.now.to.now c.args.seen.now c.args.trail.now.items

pub returns-in-Struct-body-2-clause-visited : goal.returns-in-Struct-body-2-clause-visited
returns-in-Struct-body-2-clause-visited c =
    stops_here c.args.walk.now.from.now c.args.walk.now.to.now c.args.given.now.body.now c.args.read.now.body.now
    (line_of c.args.given.now.body.now c.args.read.now.body.now _ _ c.in-Enum.is c.in-Struct-body-2.is ∙ enum_struct_line c.in-Enum.names c.in-Struct-body-2.fields c.in-Enum.ending c.in-Struct-body-2.ending)

pub returns-in_ok-has_all-in-Enum-body-2-clause-moved :
    goal.returns-in_ok-has_all-in-Enum-body-2-clause-moved
returns-in_ok-has_all-in-Enum-body-2-clause-moved c = moved_same c.args.walk.now.from.now c.args.walk.now.to.now c.args.seen.now c.args.trail.now.items

pub returns-in_ok-has_all-in-Enum-body-2-clause-visited :
    goal.returns-in_ok-has_all-in-Enum-body-2-clause-visited
returns-in_ok-has_all-in-Enum-body-2-clause-visited c =
    visited_where c.args.walk.now.from.now c.args.walk.now.to.now c.args.given.now.body.now c.args.read.now.body.now c.args.seen.now
    (has_all c.in-Enum.names c.in-Enum-body-2.others) c.stop_unless.result
    (line_of c.args.given.now.body.now c.args.read.now.body.now _ _ c.in-Enum.is c.in-Enum-body-2.is ∙ enums_line c.in-Enum.names c.in-Enum-body-2.others c.in-Enum.ending c.in-Enum-body-2.ending)
    (rw (c.in_ok-has_all-in-Enum-body-2.ensures, c.as_slice-in-Enum-body-2.ensures, c.as_slice-in-Enum-body-2-2.ensures) at c.stop_unless.ensures)
