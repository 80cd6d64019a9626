use Rattle.session_core.specs.Heard.{refuses_by}
use Rattle.session_core.specs.Sent.{sent}
use Rattle.session_core.proofs.WentLemmas.{Halts-put, Halts-broke}
use Rattle.session_core.proofs.serving.serve_take.Goals as goal

pub returns-in-Some-clause-halts : goal.returns-in-Some-clause-halts
returns-in-Some-clause-halts g c =
    Halts-put g.H.Hearer.tells (refuses_by g.H.Hearer.misses g.H.Hearer.stop_of) _ _ _ _ _
    (sent (g.K.Ends.written c.serve_piece.new.sink) c.serve_piece.new.outbox) _ c.in-Some.stop c.put_at_stop.result
    c.put_at_stop.ensures.stop c.in-Some.ensures.halts c.put_at_stop.ensures.sends

pub returns-in-Err-clause-halts : goal.returns-in-Err-clause-halts
returns-in-Err-clause-halts g c =
    Halts-broke g.H.Hearer.tells (refuses_by g.H.Hearer.misses g.H.Hearer.stop_of) _ c.serve_piece.new.session _ _ _ _
    (sent (g.K.Ends.written c.serve_piece.new.sink) c.serve_piece.new.outbox) _ c.in-None.ensures.went c.flush.ensures.sent
