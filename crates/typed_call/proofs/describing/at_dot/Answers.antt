use Rattle.resolver_core.proofs.AtDots.{cut_is}
use Rattle.typed_call.proofs.describing.at_dot.Goals as goal

pub returns : goal.returns
returns c = cut_is c.args.word.now c.rsplit_once.result c.rsplit_once.ensures.cases
