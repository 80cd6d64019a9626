-- A pass may go to another thread, and a desk may be shared, where the object, its ledger and its requests may go to another thread.
use denote.RattleType.{RattleType}
use denote.Param.Send.{IsSend, IsSync, sendable}
use Rattle.std.proofs.Crossing.{crosses}
use Rattle.atomic_table.proofs.shared.Shared.TheSendSync as table
use Rattle.atomic_table.proofs.shared.Seat.TheSendSync as seat
use Rattle.atomic_table.proofs.send_lease.SendLease.TheSendSync as lease
use Rattle.turn_desk.specs.contracts.passes.Holder as holder
use Rattle.turn_desk.specs.contracts.ledgers.Kept as kept
use Rattle.turn_desk.specs.contracts.ledgers.Forgotten as forgotten
use Rattle.turn_desk.specs.contracts.views.Book as book
use Rattle.turn_desk.specs.contracts.desks.Desk as desk
use Rattle.turn_desk.specs.declared.objects.Object as object
use Rattle.turn_desk.specs.declared.ledgers.Ledger as ledger

pub kept_send : (Q : RattleType) → IsSend Q → IsSend (kept.the_row Q)
kept_send Q q = search (sendable, crosses) depth 20

pub forgotten_send : IsSend forgotten.the_row
forgotten_send = search (sendable, crosses) depth 20

pub book_send : (O L Q : RattleType) → IsSend O → IsSend L → IsSend (book.the_row O L Q)
book_send O L Q s l = search (sendable, crosses) depth 20

pub pass_send : (O L Q : RattleType) → IsSend O → IsSend L → IsSend (holder.the_row O L Q)
pass_send O L Q s l = search (sendable, crosses, seat.the_send, book_send) depth 20

pub desk_sync : (O L Q A : RattleType) (g : object.Ghosts O.Denot Q.Denot A.Denot) (h : ledger.Ghosts L.Denot Q.Denot) → IsSend O → IsSend L → IsSync (desk.the_row O L Q A g h)
desk_sync O L Q A g h s l = search (sendable, crosses, table.the_sync, lease.the_sync, book_send) depth 20
