use Rattle.std.proofs.Common.{take}
use Rattle.idl_compat.specs.Numbers.{AllTold, RowsTold}
use Rattle.idl_compat.proofs.numbers.member_targets.Given as goal

abbrev pub invariant-loop-member : goal.invariant-loop-member
invariant-loop-member l =
    record {
      told : AllTold l.fn.scope l.inner.items;
      rows : RowsTold l.fn.scope l.inner.items l.named (take l.member-index l.fn.scope.members);
    }
