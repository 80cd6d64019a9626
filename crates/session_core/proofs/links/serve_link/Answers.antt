use Rattle.session_core.specs.Heard.{refuses_by}
use Rattle.session_core.proofs.ServeLemmas.{Heard-nothing}
use Rattle.session_core.proofs.links.serve_link.Goals as goal

pub returns-in_default-clause-heard : goal.returns-in_default-clause-heard
returns-in_default-clause-heard g c = Heard-nothing g.H.Hearer.tells (refuses_by g.H.Hearer.misses g.H.Hearer.stop_of) _ _ _ _
