use Rattle.std.proofs.Common.{take}
use Rattle.idl_compat.specs.Both.{AreWithin, AreOf}
use Rattle.idl_compat.specs.Order.{AllHold, of_errors}
use Rattle.idl_compat.proofs.compares.errors.Given as goal

abbrev pub invariant-loop-member : goal.invariant-loop-member
invariant-loop-member l =
    record {
      well : AllHold (of_errors l.fn.both.first.scope.now l.fn.both.second.scope.now (take l.member-index l.members));
      within : AreWithin l.both;
      of : AreOf l.both l.fn.both.first.scope.now l.fn.both.second.scope.now;
    }
