use Rattle.std.proofs.Common.{◌≡◌, ◌+◌, ◌≤◌, ◌++◌, length, vec_len, vec_capacity}
use Rattle.door_host.specs.Porters.{AreNumberedFrom}
use Rattle.door_host.specs.Rounds.{from_last}
use Rattle.door_host.proofs.resolvers.seat_porters.Given as goal

abbrev pub invariant-loop-door : goal.invariant-loop-door
invariant-loop-door g l =
    (l.fn.doors.items ≡ l.doors.items ++ from_last (λ porter. porter.door) l.porters.items)
    × (length l.fn.doors.items ≤ vec_capacity l.doors)
    × (vec_len l.doors + vec_len l.porters ≤ vec_capacity l.porters)
    × AreNumberedFrom (λ porter. porter.number) (vec_len l.doors) l.porters.items

abbrev pub decreases-loop-door : goal.decreases-loop-door
decreases-loop-door g l = vec_len l.doors
