use Rattle.session_core.specs.Sent.{sent}
use Rattle.session_core.proofs.SentLemmas.{Sends-trans, Sends-put, SendsFront-take}
use Rattle.session_core.proofs.outboxes.Outbox.send.Goals as goal

pub returns-in-Err-put_all-clause-part : goal.returns-in-Err-put_all-clause-part
returns-in-Err-put_all-clause-part g c =
    SendsFront-take _ (sent (g.K.Ends.written c.flush.new.sink) c.flush.new.self) _ c.in-Err-put_all.field-0.written c.args.piece.now
    c.flush.ensures.sent c.in_default.ensures.empty c.in_default.ensures.empty c.in-Err-put_all.ensures.short

pub returns-clause-sent : goal.returns-clause-sent
returns-clause-sent g c =
    Sends-trans _ (sent (g.K.Ends.written c.flush.new.sink) c.flush.new.self) _ _ _ c.flush.ensures.sent
    (Sends-put _ _ _ c.in_default.ensures.empty c.in_default.ensures.empty c.in_default-put_all.ensures.ok)
