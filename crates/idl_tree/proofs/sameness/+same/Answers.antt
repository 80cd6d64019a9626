use Rattle.std.proofs.Common.{arith}
use Rattle.idl_tree.specs.Same.{same_field}
use Rattle.idl_tree.proofs.OtherLengths.{other_lengths}
use Rattle.idl_tree.proofs.sameness.+same.Goals as goal

pub same_fields-returns-then-one-other : goal.same_fields-returns-then-one-other
same_fields-returns-then-one-other t c =
    other_lengths same_field c.args.one.now c.args.other.now (λ e. omega (arith, c.if-one-other.true, e))
