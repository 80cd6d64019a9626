use Rattle.service_laws.proofs.Declaring.{replies-are-declared}
use Rattle.service_laws.proofs.laws.replies_are_declared.Goals as goal

pub returns : goal.returns
returns c = replies-are-declared
