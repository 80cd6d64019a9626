use Rattle.std.proofs.Common.{◌≡◌, ◌+◌, ◌≤◌, ◌++◌, List, vec_len, vec_capacity}
use Rattle.door_host.specs.declared.porters.Porter.{Porter}
use Rattle.door_host.specs.Rounds.{from_last}
use Rattle.door_host.proofs.resolvers.unseat_porters.Given as goal

abbrev pub invariant-loop-porter : goal.invariant-loop-porter
invariant-loop-porter g l =
    (gone : List (Porter g.row.D.Denot))
    × (l.fn.porters.items ≡ l.porters.items ++ gone)
    × (l.doors.items ≡ from_last (λ porter. porter.door) gone)
    × (l.ends.items ≡ from_last (λ porter. porter.end) gone)
    × (vec_len l.doors + vec_len l.porters ≤ vec_capacity l.doors)
    × (vec_len l.ends + vec_len l.porters ≤ vec_capacity l.ends)

abbrev pub decreases-loop-porter : goal.decreases-loop-porter
decreases-loop-porter g l = vec_len l.porters
