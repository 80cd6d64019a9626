use Rattle.std.proofs.Common.{rules}
use Rattle.door_serving.specs.Attended.{AttendsSeat, ServedDoor}
use Rattle.door_serving.specs.Conversations.{GoesOn}
use Rattle.door_serving.specs.declared.ushers.Usher.{Usher}
use Rattle.door_serving.proofs.Attending.{served_through}
use Rattle.door_serving.proofs.Going.{goes_nowhere}
use Rattle.door_serving.proofs.doors.serve_door.Goals as goal

pub returns-clause-serves : goal.returns-clause-serves
returns-clause-serves g c =
    let door = g.D.Listener in
    let after = c.attend_door-end.new in
    let served : ServedDoor AttendsSeat g.D.Conn.Ends.left g.D.Conn.Ends.written c.args.seated.now after.attendant.seated.now
    (door.coming c.args.door.now) (door.coming after.door) (door.back c.args.door.now) (door.back after.door) c.attend_door-end.result.connections =
    served_through (λ (x : Usher g.row.L.Denot g.row.G.Denot). x.seated.now) AttendsSeat g.D.Conn.Ends.left g.D.Conn.Ends.written
    _ after.attendant (door.coming c.args.door.now) (door.coming after.door) (door.back c.args.door.now) (door.back after.door)
    c.attend_door-end.result.connections c.attend_door-end.ensures.serves in
    search rules

pub returns-clause-goes_on : goal.returns-clause-goes_on
returns-clause-goes_on g c =
    let told : GoesOn c.args.seated.now c.attend_door-end.new.attendant.seated.now =
    c.attend_door-end.ensures.same.1 c.args.seated.now (goes_nowhere c.args.seated.now) in
    search rules
