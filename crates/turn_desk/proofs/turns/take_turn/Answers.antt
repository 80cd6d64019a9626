use Rattle.std.proofs.Common.{rules, ◌≡◌, ◌∷◌, Some, sym, ap, ◌∙◌}
use Rattle.atomic_table.specs.Table.{rest}
use Rattle.turn_desk.specs.Turns.{ticket_in}
use Rattle.turn_desk.proofs.Steps.{looks}
use Rattle.turn_desk.proofs.turns.take_turn.Goals as goal

pub load-requires : goal.load-requires
load-requires g c =
    let same = c.loop.invariant.1 in (
      search rules,
      search rules,
      looks g.O.Object.good g.O.Object.after g.O.Object.weigh g.L.Ledger.stands_for _ _ _ c.args.ticket _ (ap (λ m. m.0.stage) same ∙ c.requires.ticket.0) (ap (λ m. m.1) same ∙ c.requires.ticket.1),
    )

pub exchange-requires : goal.exchange-requires
exchange-requires g c =
    let same = c.loop.invariant.1 in
    let hit : c.load.result ≡ ticket_in c.loop.seat.me.0.stage = c.if-load-ticket.true ∙ sym (ap (λ m. ticket_in m.0.stage) same ∙ ap ticket_in c.requires.ticket.0) in
    let got = (c.load.ensures.2 c.args.shared.now.key.value (ap (λ m. m.0.start) same ∙ c.requires.seat.1)).0 hit in
    (search rules, (Some got.0, got.3 ∙ ap (λ l. (0, Some got.0) ∷ rest l) (sym got.3)))
