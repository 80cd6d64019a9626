use Rattle.std.proofs.Common.{[], sym, subst}
use Rattle.session_core.specs.Seen.{Seen, Moves}
use Rattle.session_core.specs.Sent.{sent}
use Rattle.session_core.specs.Steps.{IsRaw, echoed_in}
use Rattle.session_core.specs.Went.{IsRunning}
use Rattle.session_core.proofs.SentLemmas.{SendsFront-none, SendsFront-put, Sends-after}
use Rattle.session_core.proofs.WentLemmas.{PassedUntil-broke, PassedUntil-full, running-raw, next-raw}
use Rattle.session_core.proofs.serving.pass_raw.Goals as goal

pub returns-in-Err-clause-stopped : goal.returns-in-Err-clause-stopped
returns-in-Err-clause-stopped g c = PassedUntil-broke _ _ _ c.requires.raw (SendsFront-none _ _ _ c.flush.ensures.sent)

pub returns-in-Err-pump-clause-stopped : goal.returns-in-Err-pump-clause-stopped
returns-in-Err-pump-clause-stopped g c =
    rw c.in-Err-pump.ensures.stopped.0
    (PassedUntil-broke _ _ _ c.requires.raw
    (SendsFront-put _ (sent (g.K.Ends.written c.flush.new.sink) c.flush.new.self) _ _ c.flush.ensures.sent
    c.in_default.ensures.empty c.in_default.ensures.empty c.in-Err-pump.ensures.part))

pub returns-in-Stop-clause-stopped : goal.returns-in-Stop-clause-stopped
returns-in-Stop-clause-stopped g c =
    PassedUntil-full _ c.pump.new.self c.next.new.self _ _ _ c.in-Stop.stop
    (Sends-after _ (sent (g.K.Ends.written c.flush.new.sink) c.flush.new.self) _ _ c.flush.ensures.sent
    c.in_default.ensures.empty c.in_default.ensures.empty c.in_default-pump.ensures.wrote)
    c.in_default-pump.ensures.run
    (subst (λ (session : Seen). IsRunning session.phase) (sym c.in_default-pump.ensures.state) (running-raw _ c.requires.raw))
    c.in-Stop.ensures.turn c.in-Stop.ensures.run

pub returns-clause-passed : goal.returns-clause-passed
returns-clause-passed g c = record {
  out = _;
  sends = Sends-after _ (sent (g.K.Ends.written c.flush.new.sink) c.flush.new.self) _ _ c.flush.ensures.sent
      c.in_default.ensures.empty c.in_default.ensures.empty c.in_default-pump.ensures.wrote;
  moves = subst (λ (now : Seen). Moves c.args.session.now now [] [] [] (echoed_in c.args.session.now.phase c.args.session.now.held))
      (sym (next-raw c.pump.new.self c.next.new.self c.next.result
      (subst (λ (session : Seen). IsRaw session.phase) (sym c.in_default-pump.ensures.state) c.requires.raw)
      c.in_default-next.not-Stop c.next.ensures.turn))
      c.in_default-pump.ensures.run;
}
