use Rattle.session_core.specs.Sent.{sent}
use Rattle.session_core.proofs.SentLemmas.{SendsFront-then, at-err}
use Rattle.session_core.proofs.outboxes.Outbox.deliver.Goals as goal

pub returns-then-at_once-clause-part : goal.returns-then-at_once-clause-part
returns-then-at_once-clause-part g c =
    at-err c.flush.result _
    (SendsFront-then _ (sent (g.K.Ends.written c.send.new.sink) c.send.new.self) _ _ c.in_default.ensures.sent c.flush.ensures.sent)
