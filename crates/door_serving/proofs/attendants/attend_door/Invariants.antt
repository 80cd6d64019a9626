use Rattle.std.proofs.Common.{◌≡◌, ◌+◌}
use Rattle.door_serving.proofs.Attending.{SoFar}
use Rattle.door_serving.proofs.attendants.attend_door.Given as goal

abbrev pub invariant-loop-connections : goal.invariant-loop-connections
invariant-loop-connections g l =
    SoFar g.A.Attendant.attends g.D.Conn.Ends.left g.D.Conn.Ends.written l.initial.attendant l.attendant
    (g.D.Listener.coming l.initial.door) (g.D.Listener.coming l.door) (g.D.Listener.back l.initial.door) (g.D.Listener.back l.door) l.connections
    × (g.D.Listener.given l.door ≡ g.D.Listener.given l.initial.door + l.connections)
    × (g.D.Listener.stated l.door ≡ g.D.Listener.stated l.initial.door)
    × (g.D.Listener.faults l.door ≡ g.D.Listener.faults l.initial.door)
    × g.A.Attendant.same l.initial.attendant l.attendant
