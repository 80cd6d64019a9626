use Rattle.std.proofs.Common.{None, ◌+◌, ◌≤◌, arith, ap, length, refl, subst}
use Rattle.link_reach.specs.Worlds.{left_of}
use Rattle.link_exchange.specs.declared.ends.AskEnd.TheVariants.{Ended}
use Rattle.link_exchange.specs.Limits.{most_of_take}
use Rattle.link_exchange.specs.Passing.{TakesMore, TakesNoMore}
use Rattle.link_exchange.specs.Stands.{Unread, stand}
use Rattle.link_exchange.proofs.TakeLemmas.{ends-nothing_left, takes-more}
use Rattle.link_exchange.proofs.inboxes.Inbox.take_more.Goals as goal

pub returns-in-Ok-eq0-clause-ended : goal.returns-in-Ok-eq0-clause-ended
returns-in-Ok-eq0-clause-ended g c =
    subst (λ (old : Unread). TakesNoMore c.args.link.0 c.args.index
    (stand (g.R.Reach.log c.args.reach.now) (left_of (g.R.Reach.leads c.args.reach.now c.args.link.0)) None old)
    (stand (g.R.Reach.log c.take_some.new.reach) (left_of (g.R.Reach.leads c.take_some.new.reach c.args.link.0)) None
    (record { held = c.self.inside.frames.bytes; taken = c.self.inside.taken })) (Ended c.args.index)) c.self.view_is
    (ends-nothing_left c.args.link.0 c.args.index _ _ _ _ (record { held = c.self.inside.frames.bytes; taken = c.self.inside.taken }) _ c.take_some.new.buffer c.in-Ok-eq0.field-0
    c.in-Ok-eq0.field-0-test c.self.invariant.most c.if-self-eq-MOST_OF_LINK.false c.in-Ok-eq0.ensures.log c.in-Ok-eq0.ensures.end c.in-Ok-eq0.ensures.bytes refl)

pub returns-in-Ok-clause-took : goal.returns-in-Ok-clause-took
returns-in-Ok-clause-took g c =
    let few : c.in-Ok.count ≤ most_of_take = omega (arith, c.in-Ok.ensures.bound.0, c.take_some.ensures.length, c.deref_mut.ensures.len, c.self.invariant.room) in
    let held = ap (λ (u : Unread). length u.held) c.self.view_is in
    subst (λ (old : Unread). TakesMore c.args.link.0
    (stand (g.R.Reach.log c.args.reach.now) (left_of (g.R.Reach.leads c.args.reach.now c.args.link.0)) None old)
    (stand (g.R.Reach.log c.take_some.new.reach) (left_of (g.R.Reach.leads c.take_some.new.reach c.args.link.0)) None
    (record { held = c.feed-fed.new.self.bytes; taken = c.self.inside.taken + c.feed-fed.result }))) c.self.view_is
    (takes-more c.args.link.0 c.self.inside.taken c.in-Ok.count c.feed-fed.result c.self.inside.buffer.len _ _ _ _ c.self.inside.frames c.feed-fed.new.self c.take_some.new.buffer _ _
    c.in-Ok.count-test.1 c.in-Ok.ensures.bound.0 few (omega (arith, few, c.self.invariant.room)) c.in-Ok.ensures.bound.1 c.self.invariant.most c.self.invariant.limit
    (omega (arith, held)) c.deref.ensures.value c.in-Ok.ensures.log c.in-Ok.ensures.bytes c.feed-fed.ensures)
