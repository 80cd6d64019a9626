use Rattle.std.proofs.Common.{◌≡◌, ◌+◌, ◌≤◌, ◌^◌, [], ◌∷◌, ◌++◌, List, vec_len, vec_capacity}
use Rattle.std.specs.Prelude.{All}
use Rattle.turn_desk.specs.Histories.{GoesOn, NoneOf}
use Rattle.turn_desk.specs.Passes.{IsOf, all_asks, carried}
use Rattle.turn_desk.specs.Turns.{total}
use Rattle.door_host.specs.declared.keepers.Keeper.{Keeper}
use Rattle.door_host.specs.Hosts.{AreDistinct}
use Rattle.door_host.specs.Rounds.{MayLeave, from_last}
use Rattle.door_host.proofs.rounds.unseat_workers.Given as goal

abbrev pub invariant-loop-keeper : goal.invariant-loop-keeper
invariant-loop-keeper g l =
    (gone : List (Keeper g.row.D.Denot g.row.L.Denot))
    × (l.fn.keepers.items ≡ l.keepers.items ++ gone)
    × (l.doors.items ≡ from_last (λ keeper. keeper.door) gone)
    × (l.ends.items ≡ from_last (λ keeper. keeper.end) gone)
    × (l.entries ≡ total (λ keeper. keeper.seated.made) gone)
    × (l.entries ≤ all_asks l.pass)
    × (vec_len l.doors + vec_len l.keepers ≤ vec_capacity l.doors)
    × (vec_len l.ends + vec_len l.keepers ≤ vec_capacity l.ends)
    × IsOf l.desk l.pass
    × All (λ keeper. MayLeave l.desk keeper.seated) l.keepers.items
    × (all_asks l.pass + total (λ keeper. all_asks keeper.seated.pass) l.keepers.items ≡ 2 ^ 62)
    × (carried l.pass ≡ 0 ∷ from_last (λ keeper. keeper.seated.pass.number) gone)
    × AreDistinct (0 ∷ from_last (λ keeper. keeper.seated.pass.number) gone)
    × NoneOf (0 ∷ []) l.pass.seen
    × All (λ keeper. GoesOn keeper.seated.pass.seen (keeper.seated.pass.number ∷ []) l.pass.seen) gone

abbrev pub decreases-loop-keeper : goal.decreases-loop-keeper
decreases-loop-keeper g l = vec_len l.keepers
