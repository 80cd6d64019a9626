use Rattle.std.proofs.Common.{[], refl, sym, subst, ap, ◌∙◌}
use Rattle.session_core.specs.Heard.{refuses_by}
use Rattle.session_core.specs.Seen.{Seen}
use Rattle.session_core.specs.Sent.{sent}
use Rattle.session_core.specs.Went.{Went, IsRunning}
use Rattle.session_core.specs.declared.phases.Phase.{Phase}
use Rattle.session_core.proofs.WentLemmas.{Went-same, Went-call, Went-passed_if, Halts-stop, Halts-passed_if, Halts-call, running-replied}
use Rattle.session_core.proofs.serving.drain.Goals as goal

pub calls-init : goal.calls-init
calls-init g c = record {
  went = Went-same g.H.Hearer.tells _ _ _;
  running = c.requires.running;
  faults = refl;
  left = refl;
  same = g.met.H.Hearer.same_self _;
  unfinished = c.requires.unfinished;
  read_faults = refl;
}

pub returns-in-Stop-clause-halts : goal.returns-in-Stop-clause-halts
returns-in-Stop-clause-halts g c =
    Halts-stop g.H.Hearer.tells (refuses_by g.H.Hearer.misses g.H.Hearer.stop_of) _ _ _ _ _ _ _ _ c.calls.invariant.went c.calls.invariant.running c.in-Stop.ensures.turn c.in-Stop.ensures.run

pub returns-in-Raw-clause-went : goal.returns-in-Raw-clause-went
returns-in-Raw-clause-went g c =
    Went-passed_if g.H.Hearer.tells _ _ _ _ _ _ _ _ c.pass_raw.result
    (subst (λ (session : Seen). Went g.H.Hearer.tells c.args.session.now session [] c.args.hearer.now c.calls.hearer
    (sent (g.K.Ends.written c.args.sink.now) c.args.outbox.now) (sent (g.K.Ends.written c.calls.sink) c.calls.outbox))
    (sym c.in-Raw.ensures.turn.2) c.calls.invariant.went)
    c.pass_raw.ensures.passed

pub returns-in-Raw-clause-halts : goal.returns-in-Raw-clause-halts
returns-in-Raw-clause-halts g c =
    Halts-passed_if g.H.Hearer.tells (refuses_by g.H.Hearer.misses g.H.Hearer.stop_of) _ _ _ _ _ _ _ c.pass_raw.result
    (subst (λ (session : Seen). Went g.H.Hearer.tells c.args.session.now session [] c.args.hearer.now c.calls.hearer
    (sent (g.K.Ends.written c.args.sink.now) c.args.outbox.now) (sent (g.K.Ends.written c.calls.sink) c.calls.outbox))
    (sym c.in-Raw.ensures.turn.2) c.calls.invariant.went)
    c.pass_raw.ensures.stopped

pub returns-in-Some-clause-halts : goal.returns-in-Some-clause-halts
returns-in-Some-clause-halts g c =
    Halts-call g.H.Hearer.tells (refuses_by g.H.Hearer.misses g.H.Hearer.stop_of) _ _ _ c.in-Call.call _ _ _ _ _ _ c.in-Some.stop c.calls.invariant.went c.in-Call.ensures.run
    (ap (λ (s : Seen). s.phase) c.in-Call.ensures.turn.5) c.in-Some.ensures.broke

pub calls-preserved : goal.calls-preserved
calls-preserved g c =
    let answered = c.in_default.ensures.answered in
    record {
      went = Went-call g.H.Hearer.tells _ _ _ c.in-Call.call _ _ _ _ _ _ c.calls.invariant.went _ c.in-Call.ensures.run answered;
      running = subst (λ (here : Phase). IsRunning here) (sym (ap (λ (s : Seen). s.phase) answered.state)) (running-replied answered.outcome.raw);
      faults = c.in_default.ensures.faults ∙ c.calls.invariant.faults;
      left = c.answer_one.ensures.other.0 ∙ c.calls.invariant.left;
      same = g.met.H.Hearer.same_on _ _ _ c.calls.invariant.same c.answer_one.ensures.same;
      unfinished = c.answer_one.ensures.unfinished;
      read_faults = c.answer_one.ensures.other.1 ∙ c.calls.invariant.read_faults;
    }
