use Rattle.std.proofs.Common.{◌≡◌, ◌+◌, ◌≤◌}
use Rattle.turn_desk.specs.Passes.{IsOf}
use Rattle.desk_tests.proofs.asks.ask_ones.Given as goal

abbrev pub invariant-loop : goal.invariant-loop
invariant-loop g l = IsOf l.desk l.pass × (l.pass.left + l.pass.asked ≡ l.fn.pass.left + l.fn.pass.asked) × (l.replies ≤ l.counter)
