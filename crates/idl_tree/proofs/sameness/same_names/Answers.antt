use Rattle.std.proofs.Common.{arith}
use Rattle.idl_tree.specs.Same.{same_named}
use Rattle.idl_tree.proofs.OtherLengths.{other_lengths}
use Rattle.idl_tree.proofs.sameness.same_names.Goals as goal

pub returns-then-one-other : goal.returns-then-one-other
returns-then-one-other c =
    other_lengths same_named c.args.one.now c.args.other.now (λ e. omega (arith, c.if-one-other.true, e))
