use Rattle.rule_form.proofs.Typed.{formed_has_one_way}
use Rattle.rule_form.proofs.laws.formed_rules_have_one_way.Goals as goal

pub returns : goal.returns
returns c = formed_has_one_way
