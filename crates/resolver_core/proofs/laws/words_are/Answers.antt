use Rattle.resolver_core.proofs.DotLaws.{words-are}
use Rattle.resolver_core.proofs.laws.words_are.Goals as goal

pub returns : goal.returns
returns c = words-are
