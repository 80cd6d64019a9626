use Rattle.std.proofs.Common.{rules, ◌≤◌, subst}
use Rattle.turn_desk.proofs.Dividing.{splits}
use Rattle.turn_desk.proofs.splits.cut.Goals as goal

pub split_seat-requires : goal.split_seat-requires
split_seat-requires g c =
    let stage = c.requires.number in (
      search rules,
      search rules,
      splits g.O.Object.good g.O.Object.after g.O.Object.weigh g.L.Ledger.stands_for _ _ stage.0 _ _ stage.1 (subst (λ k. k ≤ c.args.seat.now.me.0.left) c.requires.amount c.requires.enough),
    )
