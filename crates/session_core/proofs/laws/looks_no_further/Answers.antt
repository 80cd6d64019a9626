use Rattle.session_core.proofs.StreamLemmas.{looks_no_further}
use Rattle.session_core.proofs.laws.looks_no_further.Goals as goal

pub returns : goal.returns
returns c = looks_no_further
