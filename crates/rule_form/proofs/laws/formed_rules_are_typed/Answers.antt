use Rattle.rule_form.proofs.Typed.{formed_is_typed}
use Rattle.rule_form.proofs.laws.formed_rules_are_typed.Goals as goal

pub returns : goal.returns
returns c = formed_is_typed
