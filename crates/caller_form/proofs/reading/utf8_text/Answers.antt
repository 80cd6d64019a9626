use Rattle.caller_form.proofs.ReplyLemmas.{utf8_of-IsUtf8}
use Rattle.caller_form.proofs.reading.utf8_text.Goals as goal

pub returns-in-Ok : goal.returns-in-Ok
returns-in-Ok c =
    (c.in-Ok.ensures.cases.0, utf8_of-IsUtf8 c.args.payload.now c.in-Ok.ensures.cases.1)
