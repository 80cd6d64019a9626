use Rattle.service_core.proofs.Cuts.{cut_is}
use Rattle.service_core.proofs.words.at_last_dot.Goals as goal

pub returns : goal.returns
returns c = cut_is c.args.word.now c.rsplit_once.result c.rsplit_once.ensures.cases
