use Rattle.message_frame.proofs.RunLemmas.{nothing_lost}
use Rattle.message_frame.proofs.laws.nothing_lost.Goals as goal

pub returns : goal.returns
returns c = nothing_lost
