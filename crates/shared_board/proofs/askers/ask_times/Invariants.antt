use Rattle.std.proofs.Common.{◌≡◌}
use Rattle.turn_desk.specs.Passes.{IsOf, all_asks}
use Rattle.shared_board.proofs.askers.ask_times.Given as goal

abbrev pub invariant-loop : goal.invariant-loop
invariant-loop g l = IsOf l.desk l.pass × (all_asks l.pass ≡ all_asks l.initial.pass)
