-- A board may go to another thread with what its desk keeps, and so may its askers.
use denote.Param.Send.{IsSend, sendable}
use Rattle.std.proofs.Crossing.{crosses}
use Rattle.link_port.proofs.Sharing.{list_send}
use Rattle.idl_tree.proofs.Sharing.{checked_send, checked_sync}
use Rattle.typed_value.proofs.Sharing.{val_send}
use Rattle.typed_value.specs.contracts.vals.Val as val
use Rattle.turn_desk.specs.contracts.ledgers.Kept as kept
use Rattle.turn_desk.proofs.Sharing.{pass_send, kept_send}
use Rattle.shared_board.specs.contracts.boards.Board as board
use Rattle.shared_board.specs.contracts.askers.Asker as asker

pub board_send : IsSend board.the_row
board_send = search (sendable, crosses, val_send, list_send, checked_send, checked_sync) depth 20

pub history_send : IsSend (kept.the_row val.the_row)
history_send = search (sendable, crosses, kept_send, val_send) depth 20

pub asker_send : IsSend asker.the_row
asker_send = search (sendable, crosses, pass_send, board_send, history_send) depth 20
