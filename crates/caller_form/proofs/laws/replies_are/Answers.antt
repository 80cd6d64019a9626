use Rattle.caller_form.proofs.ReplyLemmas.{reply_of-IsReply, IsReply-reply_of}
use Rattle.caller_form.proofs.laws.replies_are.Goals as goal

pub returns : goal.returns
returns c = λ payload reply. (IsReply-reply_of payload reply, reply_of-IsReply payload reply)
