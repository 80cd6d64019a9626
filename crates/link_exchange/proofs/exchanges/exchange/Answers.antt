use Rattle.link_exchange.specs.Asked.{asked}
use Rattle.link_exchange.proofs.TookLemmas.{Exchanged-took, Exchanged-oneway, Exchanged-broken, ExchangedIn-took}
use Rattle.link_exchange.proofs.exchanges.exchange.Goals as goal

pub returns-in-Err-clause-exchanged : goal.returns-in-Err-clause-exchanged
returns-in-Err-clause-exchanged g c =
    Exchanged-broken (asked c.args.asking (g.S.Screen.unread c.args.screen.now)) c.args.text.now c.args.link.0 _ _ _ c.in-Err.fault _ c.end_of_fault.ensures c.in-Err.ensures.sent

pub returns-then-asking-clause-exchanged : goal.returns-then-asking-clause-exchanged
returns-then-asking-clause-exchanged g c =
    Exchanged-oneway (asked c.args.asking (g.S.Screen.unread c.args.screen.now)) c.args.text.now c.args.link.0 _ _ _ c.if-asking.true c.in_default.ensures.sent

pub returns-clause-exchanged : goal.returns-clause-exchanged
returns-clause-exchanged g c =
    Exchanged-took (asked c.args.asking (g.S.Screen.unread c.args.screen.now)) c.args.text.now c.args.link.0 _ _ _ _ _ c.if-asking.false c.in_default.ensures.sent c.take_replies.ensures.took

pub returns-clause-told : goal.returns-clause-told
returns-clause-told g c told =
    ExchangedIn-took g.R.Reach.says (asked c.args.asking (g.S.Screen.unread c.args.screen.now)) c.args.text.now c.args.link.0 _ _ _ _ _ _ _ _ _ c.if-asking.false c.in_default.ensures.world c.take_replies.ensures.world c.take_replies.ensures.took told
