use Rattle.call_form.proofs.MessagesBack.{replies_read_back}
use Rattle.call_form.proofs.laws.replies_read_back.Goals as goal

pub returns : goal.returns
returns c = replies_read_back
