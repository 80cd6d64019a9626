use Rattle.session_core.proofs.StreamLemmas.{only_adds}
use Rattle.session_core.proofs.laws.only_adds.Goals as goal

pub returns : goal.returns
returns c = only_adds
