use Rattle.std.proofs.Common.{◌≡◌, ◌≤◌, map, take, drop, reverse, vec_capacity}
use Rattle.door_binder.specs.BoundDoors.{cut}
use Rattle.door_binder.proofs.mem_binders.move_doors.Given as goal

-- as many doors were moved as rounds were made, and there is room for the rest
abbrev pub invariant-loop : goal.invariant-loop
invariant-loop l = record {
  made : l.made.items ≡ map (cut l.connections) (take l.counter (reverse l.initial.doors.items));
  rest : reverse l.doors.items ≡ drop l.counter (reverse l.initial.doors.items);
  room : l.count ≤ vec_capacity l.made;
}
