use Rattle.std.proofs.Common.{rules, sym, ap, ◌∙◌, subst}
use Rattle.turn_desk.specs.Histories.{GoesOn, Apart}
use Rattle.turn_desk.specs.Passes.{carried}
use Rattle.turn_desk.specs.Turns.{numbers_of, Settled, SettledAt}
use Rattle.turn_desk.proofs.Dividing.{joins}
use Rattle.turn_desk.proofs.Steps.{settles}
use Rattle.turn_desk.proofs.desks.Desk.join.Goals as goal

pub join_seat-requires : goal.join_seat-requires
join_seat-requires g c = (
  search rules,
  search rules,
  search rules,
  search rules,
  joins g.O.Object.good g.O.Object.after g.O.Object.weigh g.L.Ledger.stands_for _ _ _ _ _ c.pass.invariant.stage c.other.invariant.stage,
)

pub load-requires : goal.load-requires
load-requires g c = (
  search rules,
  search rules,
  settles g.O.Object.good g.O.Object.after g.O.Object.weigh g.L.Ledger.stands_for _ _ _ _ _ _ _ _ (ap (λ m. m.0.stage) c.join_seat.ensures.2),
)

pub returns-clause-first : goal.returns-clause-first
returns-clause-first g c =
    let joined = c.join_seat.ensures.2 in
    let v = c.pass.inside.seat.me.0 in
    let w = c.other.inside.seat.me.0 in
    let one : Settled v.seen w.seen (numbers_of v) (numbers_of w) = subst SettledAt (ap (λ m. m.0.stage) joined) c.load.ensures.2.2 in
    let now = ap (λ u. u.seen) c.load.ensures.2.1 ∙ ap (λ m. m.0.seen) joined in
    subst (λ z. GoesOn z.seen (carried z) c.load.new.seat.me.0.seen) c.pass.view_is (subst (GoesOn v.seen (numbers_of v)) (sym now) one.first)

pub returns-clause-second : goal.returns-clause-second
returns-clause-second g c =
    let joined = c.join_seat.ensures.2 in
    let v = c.pass.inside.seat.me.0 in
    let w = c.other.inside.seat.me.0 in
    let one : Settled v.seen w.seen (numbers_of v) (numbers_of w) = subst SettledAt (ap (λ m. m.0.stage) joined) c.load.ensures.2.2 in
    let now = ap (λ u. u.seen) c.load.ensures.2.1 ∙ ap (λ m. m.0.seen) joined in
    subst (λ z. GoesOn z.seen (carried z) c.load.new.seat.me.0.seen) c.other.view_is (subst (GoesOn w.seen (numbers_of w)) (sym now) one.second)

pub returns-clause-apart : goal.returns-clause-apart
returns-clause-apart g c =
    let joined = c.join_seat.ensures.2 in
    let v = c.pass.inside.seat.me.0 in
    let w = c.other.inside.seat.me.0 in
    let one : Settled v.seen w.seen (numbers_of v) (numbers_of w) = subst SettledAt (ap (λ m. m.0.stage) joined) c.load.ensures.2.2 in
    subst (λ z. Apart (carried z) (carried c.args.other)) c.pass.view_is (subst (λ z. Apart (numbers_of v) (carried z)) c.other.view_is one.apart)
