use Rattle.call_form.specs.ReplyText.{reply_tree}
use Rattle.call_form.proofs.TextLemmas.{compact_text-NoNul}
use Rattle.call_form.proofs.laws.one_message.Goals as goal

pub returns : goal.returns
returns c = λ reply. compact_text-NoNul (reply_tree reply)
