use Rattle.std.proofs.Common.{rules, arith, ap, ◌∙◌}
use Rattle.turn_desk.specs.Histories.{requests_of}
use Rattle.turn_desk.specs.Turns.{number_in}
use Rattle.turn_desk.proofs.Lists.{requests_none}
use Rattle.turn_desk.proofs.Steps.{numbers}
use Rattle.turn_desk.proofs.desks.Desk.split.Goals as goal

pub fetch_add-number-requires : goal.fetch_add-number-requires
fetch_add-number-requires g c =
    let left = ap (λ p. p.left) c.pass.view_is in
    let enough = c.requires.asks in (
      search rules,
      search rules,
      numbers g.O.Object.good g.O.Object.after g.O.Object.weigh g.L.Ledger.stands_for _ _ _ _ c.pass.invariant.stage (omega arith),
    )

pub returns-clause-none : goal.returns-clause-none
returns-clause-none g c =
    let drew = c.fetch_add-number.ensures.2 in
    ap (λ m. requests_of m.0.number m.0.seen) c.cut-seat.ensures.given
    ∙ (ap (λ w. requests_of (number_in w.stage) w.seen) drew.1 ∙ requests_none c.fetch_add-number.result c.pass.inside.seat.me.0.seen drew.4)
