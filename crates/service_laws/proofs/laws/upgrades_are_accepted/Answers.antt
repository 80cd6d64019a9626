use Rattle.service_laws.proofs.Upgrading.{upgrades-are-accepted}
use Rattle.service_laws.proofs.laws.upgrades_are_accepted.Goals as goal

pub returns : goal.returns
returns c = upgrades-are-accepted
