use Rattle.service_laws.proofs.Described.{descriptions-are-told}
use Rattle.service_laws.proofs.laws.descriptions_are_told.Goals as goal

pub returns : goal.returns
returns c = descriptions-are-told c.texts_are_accepted.ensures
