use Rattle.std.proofs.Common.{rules, ◌≡◌, ◌∷◌, [], Some, sym, subst}
use Rattle.atomic_table.specs.Table.{opening}
use Rattle.turn_desk.specs.Turns.{Holds, first_view}
use Rattle.turn_desk.proofs.Dividing.{new_book, starts}
use Rattle.turn_desk.proofs.desks.Desk.start.Goals as goal

pub new-requires-2 : goal.new-requires-2
new-requires-2 g c =
    let start = c.of-key.result.value in
    let ledger = c.new.result in
    let is : c.push_reserved.new.self.items ≡ Some (new_book g.O.Object.good g.O.Object.after g.O.Object.weigh g.L.Ledger.stands_for start ledger) ∷ [] = search rules in
    subst (λ xs. Holds g.O.Object.good g.O.Object.after g.O.Object.weigh g.L.Ledger.stands_for start (opening (0 ∷ 0 ∷ 1 ∷ []) xs (first_view start))) (sym is)
    (starts g.O.Object.good g.O.Object.after g.O.Object.weigh g.L.Ledger.stands_for start ledger (search rules))
