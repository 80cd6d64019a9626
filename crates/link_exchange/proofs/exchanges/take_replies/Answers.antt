use Rattle.std.proofs.Common.{refl, ◌∙◌, arith}
use Rattle.link_exchange.specs.Asked.{asked}
use Rattle.link_exchange.proofs.TakingLemmas.{Taking-none, Taking-passed, Taking-took, Taking-ended, Taking-stopped}
use Rattle.link_exchange.proofs.exchanges.take_replies.Goals as goal

pub takes-init : goal.takes-init
takes-init g c = record {
  taking = Taking-none (asked c.args.asking (g.S.Screen.unread c.args.screen.now)) c.args.link.0 _ (omega arith) (omega arith);
  link_faults = refl;
  write_faults = refl;
  world = refl;
  links = λ m apart. refl;
  opened = refl;
  states = λ m. refl;
  freed = refl;
  other = (refl, refl);
  unfinished = c.requires.unfinished;
}

pub returns-in-Some-clause-took : goal.returns-in-Some-clause-took
returns-in-Some-clause-took g c =
    Taking-ended (asked c.args.asking (g.S.Screen.unread c.args.screen.now)) c.args.link.0 _ _ _ _ _ c.in-Some.end c.takes.invariant.taking c.in-Some.ensures.ended

pub returns-in-Some-take_more-clause-took : goal.returns-in-Some-take_more-clause-took
returns-in-Some-take_more-clause-took g c =
    Taking-stopped (asked c.args.asking (g.S.Screen.unread c.args.screen.now)) c.args.link.0 _ _ _ _ _ _ c.in-Some-take_more.end
    (Taking-passed (asked c.args.asking (g.S.Screen.unread c.args.screen.now)) c.args.link.0 _ _ _ _ _ _ c.takes.invariant.taking c.in_default.ensures.passed)
    c.in_default.ensures.passed.settled c.in-Some-take_more.ensures.ended

pub takes-preserved : goal.takes-preserved
takes-preserved g c =
    let earlier = c.takes.invariant in
    let passed = c.in_default.ensures.passed in
    let took = c.in_default-take_more.ensures in
    record {
      taking = Taking-took (asked c.args.asking (g.S.Screen.unread c.args.screen.now)) c.args.link.0 _ _ _ _ _ _
          (Taking-passed (asked c.args.asking (g.S.Screen.unread c.args.screen.now)) c.args.link.0 _ _ _ _ _ _ earlier.taking passed) passed.settled took.took;
      link_faults = took.faults ∙ earlier.link_faults;
      write_faults = c.in_default.ensures.faults ∙ earlier.write_faults;
      world = c.take_more.ensures.world ∙ earlier.world;
      links = λ m apart. c.take_more.ensures.links m apart ∙ earlier.links m apart;
      opened = c.take_more.ensures.opened ∙ earlier.opened;
      states = λ m. c.take_more.ensures.states m ∙ earlier.states m;
      freed = c.take_more.ensures.freed ∙ earlier.freed;
      other = (c.pass_on.ensures.other.0 ∙ earlier.other.0, c.pass_on.ensures.other.1 ∙ earlier.other.1);
      unfinished = c.pass_on.ensures.unfinished;
    }
