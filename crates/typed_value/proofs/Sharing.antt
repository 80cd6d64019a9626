-- A value may go to another thread.
use denote.Param.Send.{IsSend, sendable}
use Rattle.std.proofs.Crossing.{crosses}
use Rattle.link_port.proofs.Sharing.{text_send, list_send, value_send}
use Rattle.typed_value.proofs.vals.Val.TheLaws.TheKnot as vals
use Rattle.typed_value.specs.contracts.vals.Val as val

pub val_send : IsSend (val.the_field).row
val_send = search (sendable, crosses, vals.send-Val, text_send, list_send, value_send) depth 20
