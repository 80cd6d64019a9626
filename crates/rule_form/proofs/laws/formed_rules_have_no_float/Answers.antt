use Rattle.rule_form.proofs.Typed.{formed_has_no_float}
use Rattle.rule_form.proofs.laws.formed_rules_have_no_float.Goals as goal

pub returns : goal.returns
returns c = formed_has_no_float
