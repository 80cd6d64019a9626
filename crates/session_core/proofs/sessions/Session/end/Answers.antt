use Rattle.std.proofs.Common.{◌∙◌, ap, sym}
use Rattle.session_core.specs.Run.{stopped}
use Rattle.session_core.proofs.RunLemmas.{end-run}
use Rattle.session_core.proofs.sessions.Session.end.Goals as goal

pub returns-clause-run : goal.returns-clause-run
returns-clause-run c = λ outcomes. end-run _ outcomes c.requires ∙ ap stopped (sym c.ending-stop.ensures)
