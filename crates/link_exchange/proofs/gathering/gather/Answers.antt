use Rattle.std.proofs.Common.{refl, ◌∙◌, arith}
use Rattle.link_exchange.specs.Asked.{asked}
use Rattle.link_exchange.proofs.GatherLemmas.{Gathers-none, Gathers-trans, GatherEnds-after}
use Rattle.link_exchange.proofs.gathering.gather.Goals as goal

pub messages-init : goal.messages-init
messages-init g c = record { limit = refl; shorter = omega arith; gathered = Gathers-none (asked c.args.asking (g.S.Screen.unread c.args.screen.now)) _ _ _ }

pub messages-preserved : goal.messages-preserved
messages-preserved g c = record {
  limit = c.gather_one.ensures.limit ∙ c.messages.invariant.limit;
  shorter = omega (arith, c.messages.invariant.shorter, c.in-Passed.ensures.step.1);
  gathered = Gathers-trans (asked c.args.asking (g.S.Screen.unread c.args.screen.now)) _ _ _ _ _ _ _ _ _ c.messages.invariant.gathered c.in-Passed.ensures.step.0;
}

pub returns-in-Ends-clause-ended : goal.returns-in-Ends-clause-ended
returns-in-Ends-clause-ended g c =
    GatherEnds-after (asked c.args.asking (g.S.Screen.unread c.args.screen.now)) _ _ _ _ _ _ _ _ c.in-Ends.end c.messages.invariant.gathered c.in-Ends.ensures.step

pub returns-in-Ends-clause-shorter : goal.returns-in-Ends-clause-shorter
returns-in-Ends-clause-shorter g c = omega (arith, c.messages.invariant.shorter, c.in-Ends.ensures.step.shorter)
