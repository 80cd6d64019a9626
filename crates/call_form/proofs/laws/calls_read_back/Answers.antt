use Rattle.call_form.proofs.MessagesBack.{calls_read_back}
use Rattle.call_form.proofs.laws.calls_read_back.Goals as goal

pub returns : goal.returns
returns c = calls_read_back
