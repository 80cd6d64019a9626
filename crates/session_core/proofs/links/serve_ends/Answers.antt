use Rattle.std.proofs.Common.{[], ◌++◌, Option, List, ℕ, refl, sym, ◌∙◌, subst, take, arith}
use Rattle.std.proofs.lemmas.List.{length-take}
use Rattle.std.proofs.KnownBytes.{Consumes-nil, Consumes-trans}
use Rattle.std.specs.Io.KnownBytes.{Consumes}
use Rattle.call_form.specs.declared.TheConstants.{CALL_LIMIT}
use Rattle.session_core.specs.Heard.{refuses_by}
use Rattle.session_core.specs.Seen.{Seen, fresh}
use Rattle.session_core.specs.Sent.{sent}
use Rattle.session_core.specs.Went.{Went}
use Rattle.session_core.proofs.WentLemmas.{Went-same, Went-trans}
use Rattle.session_core.proofs.ServeLemmas.{Heard-end, Heard-read, Heard-halt, takes-all, consumes-none, ready-fresh}
use Rattle.session_core.proofs.links.serve_ends.Goals as goal

pub takes-init : goal.takes-init
takes-init g c = record {
  fed = [];
  consumed = Consumes-nil _;
  went = Went-same g.H.Hearer.tells _ _ _;
  ready = rw c.requires.new (ready-fresh _);
  empty = c.requires.empty;
  reads = refl;
  writes = refl;
  aside = refl;
  same = g.met.H.Hearer.same_self _;
  unfinished = c.requires.unfinished;
}

pub returns-in-Err-clause-heard : goal.returns-in-Err-clause-heard
returns-in-Err-clause-heard g c =
    let earlier = c.takes.invariant in
    Heard-read g.H.Hearer.tells (refuses_by g.H.Hearer.misses g.H.Hearer.stop_of) _ c.takes.session earlier.fed _ _ _ _ _ (sent (g.W.Way.written c.take_some.new.from c.take_some.new.to) c.takes.outbox)
    (subst (λ (now : Option (List ℕ)). Went g.H.Hearer.tells (fresh CALL_LIMIT) c.takes.session earlier.fed c.args.hearer.now c.takes.hearer
    (sent (g.W.Way.written c.args.from.now c.args.to.now) c.args.outbox.now) (sent now c.takes.outbox)) (sym c.take_some.ensures.other.0)
    (subst (λ (from : Seen). Went g.H.Hearer.tells from c.takes.session earlier.fed c.args.hearer.now c.takes.hearer
    (sent (g.W.Way.written c.args.from.now c.args.to.now) c.args.outbox.now) (sent (g.W.Way.written c.takes.from c.takes.to) c.takes.outbox)) c.requires.new earlier.went))
    earlier.ready c.requires.empty earlier.empty
    (subst (λ (left : Option (List ℕ)). Consumes (g.W.Way.left c.args.from.now c.args.to.now) left earlier.fed) (sym c.in-Err.ensures.bytes) earlier.consumed)

pub returns-in-Ok-eq0-clause-heard : goal.returns-in-Ok-eq0-clause-heard
returns-in-Ok-eq0-clause-heard g c =
    let earlier = c.takes.invariant in
    Heard-end g.H.Hearer.tells (refuses_by g.H.Hearer.misses g.H.Hearer.stop_of) _ c.takes.session earlier.fed _ _ _ _ _ (sent (g.W.Way.written c.take_some.new.from c.take_some.new.to) c.takes.outbox) c.end.result
    (subst (λ (now : Option (List ℕ)). Went g.H.Hearer.tells (fresh CALL_LIMIT) c.takes.session earlier.fed c.args.hearer.now c.takes.hearer
    (sent (g.W.Way.written c.args.from.now c.args.to.now) c.args.outbox.now) (sent now c.takes.outbox)) (sym c.take_some.ensures.other.0)
    (subst (λ (from : Seen). Went g.H.Hearer.tells from c.takes.session earlier.fed c.args.hearer.now c.takes.hearer
    (sent (g.W.Way.written c.args.from.now c.args.to.now) c.args.outbox.now) (sent (g.W.Way.written c.takes.from c.takes.to) c.takes.outbox)) c.requires.new earlier.went))
    earlier.ready c.requires.empty earlier.empty
    (consumes-none _ _ _ earlier.fed c.take_some.new.buffer c.in-Ok-eq0.field-0 c.in-Ok-eq0.field-0-test earlier.consumed c.in-Ok-eq0.ensures.bytes)
    c.end.ensures.stop
    (takes-all c.end.result _ _ earlier.fed c.in-Ok-eq0.field-0 c.in-Ok-eq0.field-0-test earlier.consumed c.in-Ok-eq0.ensures.end)

pub returns-in-Some-clause-heard : goal.returns-in-Some-clause-heard
returns-in-Some-clause-heard g c =
    let earlier = c.takes.invariant in
    Heard-halt g.H.Hearer.tells (refuses_by g.H.Hearer.misses g.H.Hearer.stop_of) _ c.takes.session earlier.fed _ _ _ _ _ _ _ _ (sent (g.W.Way.written c.take_some.new.from c.take_some.new.to) c.takes.outbox) _ c.in-Some.stop
    (subst (λ (now : Option (List ℕ)). Went g.H.Hearer.tells (fresh CALL_LIMIT) c.takes.session earlier.fed c.args.hearer.now c.takes.hearer
    (sent (g.W.Way.written c.args.from.now c.args.to.now) c.args.outbox.now) (sent now c.takes.outbox)) (sym c.take_some.ensures.other.0)
    (subst (λ (from : Seen). Went g.H.Hearer.tells from c.takes.session earlier.fed c.args.hearer.now c.takes.hearer
    (sent (g.W.Way.written c.args.from.now c.args.to.now) c.args.outbox.now) (sent (g.W.Way.written c.takes.from c.takes.to) c.takes.outbox)) c.requires.new earlier.went))
    c.in-Some.ensures.halts c.in-Some.ensures.why c.requires.empty c.in-Some.ensures.put_stopped earlier.consumed (subst (λ (left : Option (List ℕ)). Consumes (g.W.Way.left c.takes.from c.takes.to) left (take c.in-Ok.count c.take_some.new.buffer))
    (sym c.serve.ensures.other.0) c.in-Ok.ensures.bytes)
    (omega (arith, earlier.ready.more, c.in-Ok.ensures.bound, c.taken.ensures, length-take c.in-Ok.count c.take_some.new.buffer))

pub takes-preserved : goal.takes-preserved
takes-preserved g c =
    let earlier = c.takes.invariant in
    record {
      fed = earlier.fed ++ take c.in-Ok.count c.take_some.new.buffer;
      consumed = Consumes-trans _ _ _ _ _ earlier.consumed (subst (λ (left : Option (List ℕ)). Consumes (g.W.Way.left c.takes.from c.takes.to) left (take c.in-Ok.count c.take_some.new.buffer))
          (sym c.serve.ensures.other.0) c.in-Ok.ensures.bytes);
      went = Went-trans g.H.Hearer.tells _ _ _ _ _ _ _ _ _ (sent (g.W.Way.written c.take_some.new.from c.take_some.new.to) c.takes.outbox) _ (subst (λ (now : Option (List ℕ)). Went g.H.Hearer.tells c.args.session.now c.takes.session earlier.fed c.args.hearer.now c.takes.hearer
          (sent (g.W.Way.written c.args.from.now c.args.to.now) c.args.outbox.now) (sent now c.takes.outbox)) (sym c.take_some.ensures.other.0) earlier.went) c.in_default.ensures.went;
      ready = c.in_default.ensures.ready;
      empty = c.in_default.ensures.put;
      reads = c.serve.ensures.other.1 ∙ c.in-Ok.ensures.sound ∙ earlier.reads;
      writes = c.in_default.ensures.faults ∙ c.take_some.ensures.other.1 ∙ earlier.writes;
      aside = c.serve.ensures.aside ∙ c.take_some.ensures.aside ∙ earlier.aside;
      same = g.met.H.Hearer.same_on _ _ _ earlier.same c.serve.ensures.same;
      unfinished = c.serve.ensures.unfinished;
    }
