use Rattle.std.proofs.Common.{sym, subst}
use Rattle.sheet_step.specs.Levels.{Told}
use Rattle.sheet_step.specs.declared.levels.Depth.{Depth}
use Rattle.sheet_step.proofs.KnownDepths.{deep_one}
use Rattle.sheet_step.proofs.levels.are_level.Goals as goal

pub returns-in-DeepAt : goal.returns-in-DeepAt
returns-in-DeepAt c =
    let rs = c.args.registers.now in
    sym (deep_one rs c.in-DeepAt.field-0 (subst (λ (d : Depth). Told d rs) c.in-DeepAt.is c.requires))
