use Rattle.caller_form.proofs.TextsBack.{calls_read_back}
use Rattle.caller_form.proofs.laws.call_texts_read_back.Goals as goal

pub returns : goal.returns
returns c = calls_read_back
