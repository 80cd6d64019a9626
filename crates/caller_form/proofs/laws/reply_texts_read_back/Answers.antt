use Rattle.caller_form.proofs.TextsBack.{replies_read_back}
use Rattle.caller_form.proofs.laws.reply_texts_read_back.Goals as goal

pub returns : goal.returns
returns c = replies_read_back
