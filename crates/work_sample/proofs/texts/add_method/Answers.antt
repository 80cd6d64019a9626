use Rattle.work_sample.specs.Texts.{method_text}
use Rattle.work_sample.proofs.texts.add_method.Goals as goal

pub returns : goal.returns
unfolding method_text
returns c = c.add_between.ensures
