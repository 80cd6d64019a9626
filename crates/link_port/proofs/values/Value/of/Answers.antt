use Rattle.link_port.proofs.Utf8Views.{view-utf8}
use Rattle.link_port.proofs.values.Value.of.Goals as goal

pub returns-clause-utf8 : goal.returns-clause-utf8
returns-clause-utf8 c = view-utf8 c.args.inner
