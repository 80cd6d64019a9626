-- Texts, lists, boxes and values may go to another thread, and be shared.
use denote.RattleType.{RattleType}
use denote.Param.Send.{IsSend, IsSync, sendable}
use Rattle.std.proofs.Crossing.{crosses}
use Rattle.std.proofs.MapsCrossing as maps
use Rattle.serde_json.proofs.value.Value.TheLaws.TheKnot as json
use Rattle.link_port.specs.contracts.texts.Text as text
use Rattle.link_port.specs.contracts.lists.List as list
use Rattle.link_port.specs.contracts.boxes.Box as heap
use Rattle.link_port.specs.contracts.values.Value as value

pub text_send : IsSend (text.the_field).row
text_send = search (sendable, crosses) depth 20

pub text_sync : IsSync (text.the_field).row
text_sync = search (sendable, crosses) depth 20

pub list_send : (T : RattleType) → IsSend T → IsSend (list.the_row T)
list_send T s = search (sendable, crosses) depth 20

pub list_sync : (T : RattleType) → IsSync T → IsSync (list.the_row T)
list_sync T s = search (sendable, crosses) depth 20

pub box_send : (T : RattleType) → IsSend T → IsSend (heap.the_row T)
box_send T s = search (sendable, crosses) depth 20

pub box_sync : (T : RattleType) → IsSync T → IsSync (heap.the_row T)
box_sync T s = search (sendable, crosses) depth 20

pub value_send : IsSend (value.the_field).row
value_send = search (sendable, crosses, maps.crosses, json.send-Value) depth 20

pub value_sync : IsSync (value.the_field).row
value_sync = search (sendable, crosses, maps.crosses, json.sync-Value) depth 20
