use Rattle.rule_form.proofs.Missing.{struct_misses, items_misses}
use Rattle.rule_form.proofs.misses.+missing.Goals as goal

pub expr_misses-returns-in-Struct : goal.expr_misses-returns-in-Struct
expr_misses-returns-in-Struct t c =
    rw (c.in-Struct.is, struct_misses c.args.ground.now.standing.registers.now c.in-Struct.members, ← c.as_slice.ensures) c.any_member_misses.ensures

pub expr_misses-returns-in-Items : goal.expr_misses-returns-in-Items
expr_misses-returns-in-Items t c =
    rw (c.in-Items.is, items_misses c.args.ground.now.standing.registers.now c.in-Items.drafts, ← c.as_slice-in-Items.ensures) c.any_misses.ensures
