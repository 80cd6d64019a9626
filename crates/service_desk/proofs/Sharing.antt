-- A service's desk may be shared between threads, and its passes may go to another thread.
use denote.RattleType.{RattleType}
use denote.Param.Send.{IsSend, IsSync, sendable}
use Rattle.std.proofs.Crossing.{crosses}
use Rattle.link_port.proofs.Sharing.{text_sync, list_sync}
use Rattle.typed_value.proofs.Sharing.{val_send}
use Rattle.turn_desk.specs.contracts.desks.Desk as desk
use Rattle.turn_desk.specs.contracts.passes.Holder as holder
use Rattle.turn_desk.specs.declared.ledgers.Ledger as ledger
use Rattle.turn_desk.specs.contracts.ledgers.Kept as kept
use Rattle.turn_desk.proofs.Sharing.{pass_send, desk_sync, kept_send}
use Rattle.sheet_step.specs.contracts.dones.Done as done
use Rattle.service_core.specs.contracts.requests.Request as request
use Rattle.service_core.specs.contracts.services.Service as service
use Rattle.service_desk.specs.contracts.boards.Board as board
use Rattle.service_desk.specs.contracts.boards.BoardObject.TheImpl.{ghosts}
use Rattle.service_desk.proofs.SheetSharing.{sheet_send, sheet_sync, registers_send}

pub board_send : IsSend board.the_row
board_send = search (sendable, crosses, sheet_send, sheet_sync, registers_send) depth 20

pub service_sync : IsSync service.the_row
service_sync = search (sendable, crosses, sheet_send, sheet_sync, text_sync, list_sync) depth 20

pub request_send : IsSend request.the_row
request_send = search (sendable, crosses, val_send) depth 20

pub history_send : IsSend (kept.the_row request.the_row)
history_send = search (kept_send, request_send) depth 20

pub board_pass_send : (L : RattleType) → IsSend L → IsSend (holder.the_row board.the_row L request.the_row)
board_pass_send L l = pass_send board.the_row L request.the_row board_send l

pub board_desk_sync : (L : RattleType) (h : ledger.Ghosts L.Denot request.the_row.Denot) → IsSend L → IsSync (desk.the_row board.the_row L request.the_row done.the_row ghosts h)
board_desk_sync L h l = desk_sync board.the_row L request.the_row done.the_row ghosts h board_send l

-- The same where a struct lends a service: so a search for that struct finds it.
pub service_field_sync : IsSync (service.the_field).row
service_field_sync = search (sendable, crosses, sheet_send, sheet_sync, text_sync, list_sync) depth 20
