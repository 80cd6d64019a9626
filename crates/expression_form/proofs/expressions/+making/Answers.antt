use Rattle.sheet_rules.specs.Views.{typ_of, setting_of}
use Rattle.expression_form.specs.Expressions.{field_made, makers_of}
use Rattle.expression_form.proofs.After.{after_all}
use Rattle.expression_form.proofs.DraftOpens.{struct_by, not_fields, all_fields}
use Rattle.expression_form.proofs.expressions.+making.Goals as goal

pub made-returns-in-Struct : goal.made-returns-in-Struct
made-returns-in-Struct t c =
    let is = struct_by (setting_of c.args.ground.now.standing) c.in-Struct.members (typ_of c.args.of.now) (typ_of c.without_maybe.result) c.without_maybe.ensures in
    rw (c.in-Struct.is, is, ← c.as_slice.ensures) c.struct_by.ensures

pub struct_made-returns-then-not-are_fields : goal.struct_made-returns-then-not-are_fields
struct_made-returns-then-not-are_fields t c =
    not_fields (setting_of c.args.ground.now.standing) c.args.members.now c.args.scope c.args.fields.now c.if-not-are_fields.ensures

pub struct_made-returns : goal.struct_made-returns
struct_made-returns t c =
    let forms = field_made c.args.scope (makers_of (setting_of c.args.ground.now.standing) c.args.members.now) in
    all_fields (setting_of c.args.ground.now.standing) c.args.members.now c.args.scope c.args.fields.now c.loop-field.exprs c.if-not-are_fields.ensures
    (after_all forms c.args.fields.now c.loop-field.field-index c.loop-field.exprs c.loop-field-test.false c.loop-field.invariant)
