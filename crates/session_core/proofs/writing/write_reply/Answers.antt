use Rattle.std.proofs.Common.{[], refl, ◌∙◌}
use Rattle.call_form.specs.ReplyText.{reply_bytes}
use Rattle.session_core.proofs.SentLemmas.{Sends-nil}
use Rattle.session_core.proofs.WriteLemmas.{BreaksWithin-hand}
use Rattle.session_core.proofs.writing.write_reply.Goals as goal

pub returns-in_default-clause-part : goal.returns-in_default-clause-part
returns-in_default-clause-part g c = (BreaksWithin-hand _ c.args.reply (reply_bytes c.args.reply) [] (reply_bytes c.args.reply) refl refl (Sends-nil _), refl)

pub returns-in-Err-clause-part : goal.returns-in-Err-clause-part
returns-in-Err-clause-part g c =
    let part = c.in-Err.ensures.part in (
      (part.front, BreaksWithin-hand _ c.args.reply c.as_slice.result.now part.front part.rest (c.as_slice.ensures ∙ c.in-Ok.ensures) part.whole part.sends),
      c.in-Err.ensures.fault,
    )
