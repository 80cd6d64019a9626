use Rattle.work_sample.specs.Texts.{rule_text}
use Rattle.work_sample.proofs.texts.add_rule.Goals as goal

pub returns : goal.returns
unfolding rule_text
returns c = c.add_between.ensures
