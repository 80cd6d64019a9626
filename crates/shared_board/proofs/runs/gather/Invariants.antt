use Rattle.std.proofs.Common.{◌≡◌, ◌+◌}
use Rattle.std.specs.Prelude.{All, sum_by}
use Rattle.turn_desk.specs.Passes.{IsOf, all_asks}
use Rattle.shared_board.proofs.runs.gather.Given as goal

abbrev pub invariant-loop-worker : goal.invariant-loop-worker
invariant-loop-worker l =
    (goal.iterator-loop-worker).can_next l.worker-iterator
    × (goal.iterator-loop-worker).is_finite l.worker-iterator
    × IsOf l.desk l.pass
    × All (λ w. IsOf l.desk w.pass) l.worker-iterator.rest.items
    × (all_asks l.pass + sum_by (λ w. all_asks w.pass) l.worker-iterator.rest.items ≡ all_asks l.fn.pass + sum_by (λ w. all_asks w.pass) l.fn.workers.items)
