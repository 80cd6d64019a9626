use Rattle.std.proofs.Common.{◌≡◌, ◌≤◌, All, length, vec_capacity}
use Rattle.socket_edges.specs.RealDoors.{IsUnused}
use Rattle.socket_edges.proofs.real_binders.Bound.open.Given as goal

-- as many doors as rounds were made, none of them used, and there is room for the rest
abbrev pub invariant-loop : goal.invariant-loop
invariant-loop l = record {
  made : length l.doors.items ≡ l.counter;
  room : l.count ≤ vec_capacity l.doors;
  unused : All (IsUnused l.connections) l.doors.items;
}
