use Rattle.link_port.specs.declared.refusals.Memory.{Memory}
use Rattle.session_core.proofs.ServeLemmas.{Served-heard, Served-nothing}
use Rattle.session_core.proofs.links.serve_alone.Goals as goal

pub returns-clause-served : goal.returns-clause-served
returns-clause-served g c = Served-heard Memory g.A.Answerer.tells _ _ _ _ _ _ _ _ c.serve_ends.ensures.heard

pub returns-in_default-clause-served : goal.returns-in_default-clause-served
returns-in_default-clause-served g c = Served-nothing Memory g.A.Answerer.tells _ _ _ _
