use Rattle.rule_values.proofs.EqualCodes.{tells_equality}
use Rattle.rule_values.proofs.conditions.conditions_compare_by_equality.Goals as goal

pub returns : goal.returns
returns c = tells_equality
