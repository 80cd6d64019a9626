use Rattle.sheet_step.proofs.Leveled.{leveled_within}
use Rattle.sheet_step.proofs.steps.pass.Goals as goal

pub returns-in-Ok-clause-within : goal.returns-in-Ok-clause-within
returns-in-Ok-clause-within c =
    let before = c.args.registers.now.items in
    leveled_within before c.attempt.new.registers.items c.level.new.registers.items c.in-Ok.done c.level.result c.requires.within
    (c.level.ensures before c.in-Ok.ensures.back)
