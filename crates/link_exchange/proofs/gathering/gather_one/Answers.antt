use Rattle.link_exchange.specs.Asked.{asked}
use Rattle.link_exchange.proofs.GatherLemmas.{Steps-given, Steps-full, Steps-short}
use Rattle.link_exchange.proofs.gathering.gather_one.Goals as goal

pub returns-in-Payload-clause-step : goal.returns-in-Payload-clause-step
returns-in-Payload-clause-step g c =
    Steps-given (asked c.args.asking (g.S.Screen.unread c.args.screen.now)) c.args.index c.args.frames.now _ c.next.result _ _ c.put_line.result c.next.follows.holds-at-none c.in-Payload.payload c.in-Payload.is c.put_line.ensures

pub returns-in-TooLong-clause-step : goal.returns-in-TooLong-clause-step
returns-in-TooLong-clause-step g c =
    Steps-full (asked c.args.asking (g.S.Screen.unread c.args.screen.now)) c.args.index c.args.frames.now _ c.next.result _ c.next.follows.holds-at-none c.in-TooLong.is c.requires.room

pub returns-in-NeedMore-clause-step : goal.returns-in-NeedMore-clause-step
returns-in-NeedMore-clause-step g c =
    Steps-short (asked c.args.asking (g.S.Screen.unread c.args.screen.now)) c.args.index c.args.frames.now _ c.next.result _ _ c.wait.result c.next.follows.holds-at-none c.in-NeedMore.is c.rest.ensures.held c.wait.ensures
