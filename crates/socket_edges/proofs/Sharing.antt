-- Doors, connections and the ends of links may go to another thread.
use denote.Param.Send.{IsSend, sendable}
use Rattle.std.proofs.Crossing.{crosses}
use Rattle.link_port.proofs.Sharing.{text_send}
use Rattle.socket_edges.specs.contracts.doors.RealDoor as door
use Rattle.socket_edges.specs.contracts.connections.RealConn as conn
use Rattle.socket_edges.specs.contracts.link_ends.RealUp as up
use Rattle.socket_edges.specs.contracts.link_ends.RealDown as down

pub door_send : IsSend door.the_row
door_send = search (sendable, crosses, text_send) depth 20

pub conn_send : IsSend conn.the_row
conn_send = search (sendable, crosses) depth 20

pub up_send : IsSend up.the_row
up_send = search (sendable, crosses) depth 40

pub down_send : IsSend down.the_row
down_send = search (sendable, crosses) depth 40
