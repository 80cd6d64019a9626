use Rattle.std.proofs.Common.{rules}
use denote.Param.Send.{sendable}
use Rattle.turn_desk.specs.Passes.{all_asks}
use Rattle.turn_desk.proofs.Sharing.{desk_sync}
use Rattle.shared_board.proofs.Lists.{same_sums}
use Rattle.shared_board.proofs.Sharing.{board_send, history_send, asker_send}
use Rattle.shared_board.proofs.runs.ask_in_threads.Goals as goal

pub each-requires-send-W : goal.each-requires-send-W
each-requires-send-W g c κs within = search (sendable, asker_send) depth 20

pub each-requires-sync-D : goal.each-requires-sync-D
each-requires-sync-D g c κs within = search (sendable, desk_sync, board_send, history_send) depth 20

pub returns-clause-asks : goal.returns-clause-asks
returns-clause-asks g c = same_sums (λ w. all_asks w.pass) c.args.workers.now c.each.new.workers (search rules) (λ i w low. (c.each.ensures.done i w low).1)
