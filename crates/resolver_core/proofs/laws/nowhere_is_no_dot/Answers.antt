use Rattle.resolver_core.proofs.DotLaws.{nowhere-is-no-dot}
use Rattle.resolver_core.proofs.laws.nowhere_is_no_dot.Goals as goal

pub returns : goal.returns
returns c = nowhere-is-no-dot
