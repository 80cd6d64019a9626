use Rattle.std.proofs.Common.{IfSome, rules, subst}
use Rattle.link_exchange.specs.Asked.{asked}
use Rattle.link_exchange.specs.Passing.{PassEnds}
use Rattle.link_exchange.specs.Stands.{Unread}
use Rattle.link_exchange.proofs.PassLemmas.{pass-ended, pass-faults}
use Rattle.link_exchange.proofs.inboxes.Inbox.pass_on.Goals as goal

pub returns-clause-ended : goal.returns-clause-ended
returns-clause-ended g c =
    subst (λ (old : Unread). IfSome c.put_lines.result (PassEnds (asked c.args.asking (g.S.Screen.unread c.args.screen.now)) c.args.index.now old (record { held = c.gather-end.new.frames.bytes; taken = c.self.inside.taken })
    (g.K.Ends.written c.args.sink.now) (g.K.Ends.written c.put_lines.new.sink))) c.self.view_is
    (pass-ended (asked c.args.asking (g.S.Screen.unread c.args.screen.now)) _ _ _ _ _ _ _ _ _ _ _ _ c.gather-end.result c.put_lines.result c.gather-end.ensures.gathered c.gather-end.ensures.ended c.put_lines.ensures.put (search rules) (search rules))

pub returns-clause-faults : goal.returns-clause-faults
returns-clause-faults g c =
    pass-faults (asked c.args.asking (g.S.Screen.unread c.args.screen.now)) _ _ _ _ _ _ _ _ _ _ c.gather-end.result c.put_lines.result c.gather-end.ensures.ended c.put_lines.ensures.put
