-- A checked definition may go to another thread, and be shared.
use denote.Param.Send.{IsSend, IsSync, sendable}
use Rattle.std.proofs.Crossing.{crosses}
use Rattle.std.proofs.MapsCrossing as maps
use Rattle.link_port.proofs.Sharing.{text_send, text_sync, list_send, list_sync, box_send, box_sync}
use Rattle.idl_tree.proofs.trees.Body.TheLaws.TheKnot as bodies
use Rattle.idl_tree.specs.contracts.trees.Named as named
use Rattle.idl_tree.specs.contracts.trees.Body as body
use Rattle.idl_tree.specs.contracts.trees.Part as part
use Rattle.idl_tree.specs.contracts.trees.Member as member
use Rattle.idl_tree.specs.contracts.trees.Interface as interface
use Rattle.idl_tree.specs.contracts.places.Index as index
use Rattle.idl_tree.specs.contracts.definitions.Checked as checked

named_send : IsSend (named.the_field).row
named_send = search (sendable, crosses, text_send, list_send) depth 20

named_sync : IsSync (named.the_field).row
named_sync = search (sendable, crosses, text_sync, list_sync) depth 20

body_send : IsSend (body.the_field).row
body_send = search (sendable, crosses, bodies.send-Body, text_send, list_send, box_send, named_send) depth 20

body_sync : IsSync (body.the_field).row
body_sync = search (sendable, crosses, bodies.sync-Body, text_sync, list_sync, box_sync, named_sync) depth 20

pub part_send : IsSend (part.the_field).row
part_send = search (sendable, crosses, body_send) depth 20

pub part_sync : IsSync (part.the_field).row
part_sync = search (sendable, crosses, body_sync) depth 20

pub member_send : IsSend (member.the_field).row
member_send = search (sendable, crosses, text_send, list_send, part_send) depth 20

pub member_sync : IsSync (member.the_field).row
member_sync = search (sendable, crosses, text_sync, list_sync, part_sync) depth 20

pub interface_send : IsSend (interface.the_field).row
interface_send = search (sendable, crosses, text_send, list_send, member_send) depth 20

pub interface_sync : IsSync (interface.the_field).row
interface_sync = search (sendable, crosses, text_sync, list_sync, member_sync) depth 20

pub index_send : IsSend (index.the_field).row
index_send = search (sendable, crosses, maps.crosses) depth 20

pub index_sync : IsSync (index.the_field).row
index_sync = search (sendable, crosses, maps.crosses) depth 20

pub checked_send : IsSend checked.the_row
checked_send = search (sendable, crosses, interface_send, index_send) depth 20

pub checked_sync : IsSync checked.the_row
checked_sync = search (sendable, crosses, interface_sync, index_sync) depth 20
