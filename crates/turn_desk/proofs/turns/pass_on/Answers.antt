use Rattle.std.proofs.Common.{rules, ◌∷◌, Some, sym, ap, ◌∙◌, subst}
use Rattle.atomic_table.specs.Table.{rest}
use Rattle.turn_desk.specs.Turns.{Adds}
use Rattle.turn_desk.proofs.Steps.{passes}
use Rattle.turn_desk.proofs.turns.pass_on.Goals as goal

pub fetch_add-requires : goal.fetch_add-requires
fetch_add-requires g c =
    let m = c.exchange.ensures.3 in
    let b = c.requires.book in (
      search rules,
      search rules,
      passes g.O.Object.good g.O.Object.after g.O.Object.weigh g.L.Ledger.stands_for c.args.shared.now.key.value _ _ b.0 _ b.1 c.args.book (search rules) (ap (λ z. z.0.stage) m ∙ b.2)
          (ap (λ z. z.1) m ∙ ap (λ l. (0, Some c.args.book) ∷ rest l) c.requires.seat)
          (subst (λ n. Adds g.O.Object.good g.O.Object.after g.O.Object.weigh g.L.Ledger.stands_for c.args.shared.now.key.value n b.1 c.args.book) (sym (ap (λ z. z.0.number) m)) b.3),
    )
