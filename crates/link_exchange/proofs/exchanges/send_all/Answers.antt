use Rattle.std.proofs.Common.{ℕ, Err, refl, ◌∙◌, arith, length-drop, subst}
use Rattle.std.proofs.lemmas.List.{length-take}
use Rattle.link_reach.specs.Deeds.{CountsFault}
use Rattle.link_exchange.proofs.SendLemmas.{SendsPieces-none, SendsPieces-more, SendsPieces-all, SendsAll-broken, sent-none, sent-more, sent-all}
use Rattle.link_exchange.proofs.exchanges.send_all.Goals as goal

pub sends-init : goal.sends-init
sends-init g c = record {
  within = omega arith;
  sent = SendsPieces-none c.args.link.0 _;
  fault = refl;
  world = sent-none g.R.Reach.says _;
  links = λ m apart. refl;
  opened = refl;
  states = λ m. refl;
  freed = refl;
}

pub sends-preserved : goal.sends-preserved
sends-preserved g c =
    let earlier = c.sends.invariant in
    let step = c.in-Ok.ensures in
    record {
      within = omega (arith, step.bound, length-take {A = ℕ}, length-drop {A = ℕ});
      sent = SendsPieces-more c.args.link.0 c.sends.done c.in-Ok.count c.args.text.now _ _ _ earlier.sent step.log;
      fault = step.fault ∙ earlier.fault;
      world = sent-more g.R.Reach.says c.sends.done c.in-Ok.count c.args.text.now _ _ _ earlier.world step.world;
      links = λ m apart. step.links m apart ∙ earlier.links m apart;
      opened = step.opened ∙ earlier.opened;
      states = λ m. step.states m ∙ earlier.states m;
      freed = step.freed ∙ earlier.freed;
    }

pub returns-in-Err-clause-sent : goal.returns-in-Err-clause-sent
returns-in-Err-clause-sent g c =
    SendsAll-broken c.args.link.0 c.sends.done c.args.text.now _ _ _ c.in-Err.fault (omega arith) c.sends.invariant.sent c.in-Err.ensures.log

pub returns-in-Err-clause-fault : goal.returns-in-Err-clause-fault
returns-in-Err-clause-fault g c =
    subst (λ (before : ℕ). CountsFault {T = Unit {0}} before (g.R.Reach.faults c.send.new.self) (Err c.in-Err.fault)) c.sends.invariant.fault c.in-Err.ensures.fault

pub returns-clause-sent : goal.returns-clause-sent
returns-clause-sent g c = SendsPieces-all c.args.link.0 c.sends.done c.args.text.now _ _ (omega arith) c.sends.invariant.sent

pub returns-clause-world : goal.returns-clause-world
returns-clause-world g c = sent-all g.R.Reach.says c.sends.done c.args.text.now _ _ (omega arith) c.sends.invariant.world
