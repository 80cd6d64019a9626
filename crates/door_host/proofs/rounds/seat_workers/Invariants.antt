use Rattle.std.proofs.Common.{◌≡◌, ◌+◌, ◌*◌, ◌≤◌, ◌^◌, ◌++◌, length, vec_len, vec_capacity}
use Rattle.std.specs.Prelude.{All}
use Rattle.turn_desk.specs.Passes.{all_asks}
use Rattle.turn_desk.specs.Turns.{total}
use Rattle.door_host.specs.Rounds.{IsFirst, IsSeated, from_last}
use Rattle.door_host.proofs.rounds.seat_workers.Given as goal

abbrev pub invariant-loop-door : goal.invariant-loop-door
invariant-loop-door g l =
    (l.fn.doors.items ≡ l.doors.items ++ from_last (λ keeper. keeper.door) l.keepers.items)
    × (length l.fn.doors.items ≤ vec_capacity l.doors)
    × (vec_len l.doors + vec_len l.keepers ≤ vec_capacity l.keepers)
    × IsFirst l.desk l.pass
    × All (λ keeper. IsSeated l.service l.desk keeper.seated) l.keepers.items
    × (all_asks l.pass + total (λ keeper. all_asks keeper.seated.pass) l.keepers.items ≡ 2 ^ 62)
    × (vec_len l.doors * (2 ^ 40 + 1) ≤ l.pass.left)

abbrev pub decreases-loop-door : goal.decreases-loop-door
decreases-loop-door g l = vec_len l.doors
