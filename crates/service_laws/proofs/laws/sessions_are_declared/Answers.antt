use Rattle.service_laws.proofs.Sessions.{sessions-are-declared}
use Rattle.service_laws.proofs.laws.sessions_are_declared.Goals as goal

pub returns : goal.returns
returns c = sessions-are-declared
