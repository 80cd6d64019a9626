use Rattle.standard_interfaces.proofs.Accepted.{texts-are-accepted}
use Rattle.standard_interfaces.proofs.laws.texts_are_accepted.Goals as goal

pub returns : goal.returns
returns c = texts-are-accepted
