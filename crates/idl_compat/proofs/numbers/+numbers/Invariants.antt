use Rattle.std.proofs.Common.{take}
use Rattle.idl_compat.specs.Numbers.{Grown, AreTargets}
use Rattle.idl_compat.proofs.numbers.+numbers.Given as goal

abbrev pub invariant-field_targets-loop-field : goal.invariant-field_targets-loop-field
invariant-field_targets-loop-field l =
    record {
      grown : Grown l.scope l.initial.inner.items l.inner.items;
      are : AreTargets l.scope l.inner.items l.targets (take l.field-index l.fields);
    }
