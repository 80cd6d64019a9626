use Rattle.std.proofs.Common.{take}
use Rattle.idl_compat.specs.Within.{field_steps}
use Rattle.idl_compat.specs.Walks.{Moved, AllSettled}
use Rattle.idl_compat.proofs.looks.look_at_fields.Given as goal

abbrev pub invariant-loop-i : goal.invariant-loop-i
invariant-loop-i l =
    record {
      moved : Moved l.walk.from.now l.walk.to.now l.initial.seen l.seen l.initial.trail.items l.trail.items;
      settled : AllSettled l.walk.from.now l.walk.to.now l.seen (field_steps l.given.fields.now (take l.i l.others));
    }
