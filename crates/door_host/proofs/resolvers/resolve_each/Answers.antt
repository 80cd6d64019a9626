use Rattle.std.proofs.Common.{rules}
use denote.Param.Send.{sendable}
use Rattle.std.proofs.Crossing.{crosses}
use Rattle.std.proofs.MapsCrossing as maps
use Rattle.door_host.specs.Doors.{kind_of}
use Rattle.door_host.specs.Resolvers.{ResolvedBy}
use Rattle.door_host.proofs.Lists.{zip_from_places}
use Rattle.door_host.proofs.Sharing.{registry_sync}
use Rattle.door_host.proofs.resolvers.resolve_each.Goals as goal

pub returns : goal.returns
returns g c =
    zip_from_places
    (λ porter after. ResolvedBy (kind_of g.D.Listener.stated g.D.Listener.given g.D.Listener.faults g.D.Listener.coming g.D.Listener.back g.D.Conn.Ends.left g.D.Conn.Ends.written) c.args.registry.now porter.number porter.door after.door after.end)
    c.args.porters.now c.each.new.workers (search rules) (λ i w low. c.each.ensures.done i w low)
