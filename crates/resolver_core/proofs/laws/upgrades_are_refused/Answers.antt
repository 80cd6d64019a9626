use Rattle.resolver_core.proofs.DotLaws.{upgrades-are-refused}
use Rattle.resolver_core.proofs.laws.upgrades_are_refused.Goals as goal

pub returns : goal.returns
returns c = upgrades-are-refused
