use Rattle.session_core.proofs.TellLemmas.{told-tale}
use Rattle.session_core.proofs.laws.tells_all.Goals as goal

pub returns : goal.returns
returns g c = λ tell a b calls outcomes. told-tale tell a b calls outcomes
