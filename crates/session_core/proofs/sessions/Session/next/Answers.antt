use Rattle.session_core.proofs.RunLemmas.{next-run}
use Rattle.session_core.proofs.sessions.Session.next.Goals as goal

-- src/sessions.rt:78:5
pub returns-in_default-clause-run : goal.returns-in_default-clause-run
returns-in_default-clause-run c = next-run _ _ _ c.next_message.ensures
