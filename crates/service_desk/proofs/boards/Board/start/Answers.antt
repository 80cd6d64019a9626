use Rattle.std.specs.Arc.{arc_value}
use Rattle.service_desk.proofs.Stepping.{starts_typed}
use Rattle.service_desk.proofs.boards.Board.start.Goals as goal

pub invariant_of-result : goal.invariant_of-result
invariant_of-result c =
    starts_typed (arc_value c.in-Ok.sheet) c.args.service.now c.sheet.result.now c.in_ok-registers.registers c.registers.result.now
    c.in-Ok.ensures.sheet c.sheet.ensures.sheet c.registers.ensures.typed c.registers.ensures.registers c.in_ok-registers.ensures

pub returns-in-Ok-clause-typed : goal.returns-in-Ok-clause-typed
returns-in-Ok-clause-typed c =
    starts_typed (arc_value c.in-Ok.sheet) c.args.service.now c.sheet.result.now c.in_ok-registers.registers c.registers.result.now
    c.in-Ok.ensures.sheet c.sheet.ensures.sheet c.registers.ensures.typed c.registers.ensures.registers c.in_ok-registers.ensures
