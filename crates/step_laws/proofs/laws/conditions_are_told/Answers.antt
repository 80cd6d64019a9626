use Rattle.rule_values.specs.Conditions.{truth}
use Rattle.step_laws.proofs.FittingTypes.{there_some}
use Rattle.step_laws.proofs.Conditions.{cond_told}
use Rattle.step_laws.proofs.laws.conditions_are_told.Goals as goal

pub returns : goal.returns
returns c = λ s e at cond typed.
    let told = cond_told s e at cond typed in
    there_some (truth cond e) told.value told.is
