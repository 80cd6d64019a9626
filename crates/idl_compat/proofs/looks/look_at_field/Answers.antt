use Rattle.std.proofs.Common.{◌∙◌, sym}
use Rattle.idl_compat.specs.Within.{field_named}
use Rattle.idl_compat.proofs.Looking.{moved_same}
use Rattle.idl_compat.proofs.Visiting.{place_within, field_is, field_gone, step_here, looked_here, missing_looked}
use Rattle.idl_compat.proofs.looks.look_at_field.Goals as goal

pub target_at-given-requires-clause-within : goal.target_at-given-requires-clause-within
target_at-given-requires-clause-within c =
    place_within c.args.given.now.places c.args.given.now.fields.now c.args.read.now.field.now.name c.in-Some.i c.requires.places
    (sym (rw (c.as_str.ensures) at c.get.ensures.value) ∙ sym c.copied.ensures ∙ c.in-Some.is)

pub look_at_types-requires-clause-step : goal.look_at_types-requires-clause-step
look_at_types-requires-clause-step c =
    step_here c.args.walk.now.from.now c.args.walk.now.to.now c.args.trail.now.items c.args.place
    (field_named c.args.read.now.field.now.name c.args.given.now.fields.now) c.target_at-given.result.field.now c.args.read.now.field.now
    (field_is c.args.given.now.places c.args.given.now.fields.now c.args.read.now.field.now.name c.in-Some.i c.target_at-given.result.field.now c.requires.places
    (sym (rw (c.as_str.ensures) at c.get.ensures.value) ∙ sym c.copied.ensures ∙ c.in-Some.is) c.target_at-given.ensures.field)
    c.requires.steps

pub returns-in-Some-clause-looked : goal.returns-in-Some-clause-looked
returns-in-Some-clause-looked c =
    looked_here c.args.walk.now.from.now c.args.walk.now.to.now c.look_at_types.new.seen
    (field_named c.args.read.now.field.now.name c.args.given.now.fields.now) c.target_at-given.result.field.now c.args.read.now.field.now c.look_at_types.result
    (field_is c.args.given.now.places c.args.given.now.fields.now c.args.read.now.field.now.name c.in-Some.i c.target_at-given.result.field.now c.requires.places
    (sym (rw (c.as_str.ensures) at c.get.ensures.value) ∙ sym c.copied.ensures ∙ c.in-Some.is) c.target_at-given.ensures.field)
    c.look_at_types.ensures.looked

pub returns-in-None-clause-moved : goal.returns-in-None-clause-moved
returns-in-None-clause-moved c = moved_same c.args.walk.now.from.now c.args.walk.now.to.now c.args.seen.now c.args.trail.now.items

pub returns-in-None-clause-looked : goal.returns-in-None-clause-looked
returns-in-None-clause-looked c =
    missing_looked c.args.walk.now.from.now c.args.walk.now.to.now c.args.seen.now c.args.read.now.field
    (field_named c.args.read.now.field.now.name c.args.given.now.fields.now) c.missing.result
    (field_gone c.args.given.now.places c.args.given.now.fields.now c.args.read.now.field.now.name c.requires.places
    (sym (rw (c.as_str.ensures) at c.get.ensures.value) ∙ sym c.copied.ensures ∙ c.in-None.is))
    c.missing.ensures
