use Rattle.std.proofs.Common.{refl}
use Rattle.link_exchange.specs.Asked.{asked}
use Rattle.link_exchange.specs.declared.ends.AskEnd.TheVariants.{Memory}
use Rattle.link_exchange.proofs.GatherLemmas.{LineEnds-last, LineEnds-astray}
use Rattle.link_exchange.proofs.gathering.put_line.Goals as goal

pub returns-in-Err : goal.returns-in-Err
returns-in-Err g c =
    LineEnds-astray (asked c.args.asking (g.S.Screen.unread c.args.screen.now)) c.args.index c.args.payload.now _ _ Memory tt tt c.in-Err.ensures.memory

pub returns-in-Ok-append : goal.returns-in-Ok-append
returns-in-Ok-append g c =
    LineEnds-last (asked c.args.asking (g.S.Screen.unread c.args.screen.now)) c.args.index c.args.payload.now _ _ c.in-Last.end c.in-Last.ensures.kind c.in-Last.ensures.verdict c.in-Ok-append.ensures.line

pub returns-in-Err-append : goal.returns-in-Err-append
returns-in-Err-append g c =
    LineEnds-astray (asked c.args.asking (g.S.Screen.unread c.args.screen.now)) c.args.index c.args.payload.now _ _ Memory tt tt c.in-Err-append.ensures.memory

pub returns-in-Astray : goal.returns-in-Astray
returns-in-Astray g c =
    LineEnds-astray (asked c.args.asking (g.S.Screen.unread c.args.screen.now)) c.args.index c.args.payload.now _ _ c.in-Astray.end c.in-Astray.ensures.kind c.in-Astray.ensures.verdict refl
