use Rattle.service_laws.proofs.Described.{descriptions-are-accepted}
use Rattle.service_laws.proofs.laws.descriptions_are_accepted.Goals as goal

pub returns : goal.returns
returns c = descriptions-are-accepted c.texts_are_accepted.ensures
