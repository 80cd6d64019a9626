use Rattle.std.proofs.Common.{subst}
use Rattle.resolver_core.specs.Registries.{Entries}
use Rattle.door_serving.specs.Attended.{ServedDoor}
use Rattle.door_serving.specs.Resolving.{AttendsRegistry}
use Rattle.door_serving.specs.declared.clerks.Clerk.{Clerk}
use Rattle.door_serving.proofs.Attending.{served_through}
use Rattle.door_serving.proofs.doors.serve_registry_door.Goals as goal

pub returns-clause-serves : goal.returns-clause-serves
returns-clause-serves g c =
    let door = g.D.Listener in
    let after = c.attend_door-end.new in
    let served = served_through (λ (x : Clerk). x.registry.now) AttendsRegistry g.D.Conn.Ends.left g.D.Conn.Ends.written
    (record { registry = c.args.registry }) after.attendant (door.coming c.args.door.now) (door.coming after.door) (door.back c.args.door.now) (door.back after.door)
    c.attend_door-end.result.connections c.attend_door-end.ensures.serves in
    subst
    (λ (last : Entries). ServedDoor AttendsRegistry g.D.Conn.Ends.left g.D.Conn.Ends.written c.args.registry.now last
    (door.coming c.args.door.now) (door.coming after.door) (door.back c.args.door.now) (door.back after.door) c.attend_door-end.result.connections)
    c.attend_door-end.ensures.same served
