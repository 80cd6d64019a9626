use Rattle.std.proofs.Common.{sym, ◌∙◌, add-one}
use Rattle.idl_tree.proofs.Using.{used_here}
use Rattle.idl_tree.proofs.floats.+uses.Goals as goal

pub add_used_in_fields-loop-field-preserved : goal.add_used_in_fields-loop-field-preserved
add_used_in_fields-loop-field-preserved t c =
    let here = used_here c.args.index.now c.args.fields.now c.loop-field.field-index c.field-item.result c.loop-field.places c.loop-field-test.true c.field-item.is in
    rw (c.in_ok-add_used_in_type.ensures, add-one) (sym here ∙ c.loop-field.invariant)
