use Rattle.standard_interfaces.proofs.Replies.{standard-errors-read}
use Rattle.standard_interfaces.proofs.laws.standard_errors_read.Goals as goal

pub returns : goal.returns
returns c = standard-errors-read
