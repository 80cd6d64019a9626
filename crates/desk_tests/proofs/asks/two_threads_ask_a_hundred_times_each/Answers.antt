use denote.Param.Send.{sendable}
use Rattle.std.proofs.Crossing.{crosses}
use Rattle.turn_desk.proofs.Sharing.{pass_send, desk_sync}
use Rattle.desk_tests.proofs.asks.two_threads_ask_a_hundred_times_each.Goals as goal

pub join-one-requires-send-F : goal.join-one-requires-send-F
join-one-requires-send-F g = search (sendable, crosses, pass_send, desk_sync) depth 20

pub join-one-requires-send-A : goal.join-one-requires-send-A
join-one-requires-send-A g = search (sendable, crosses, pass_send, desk_sync) depth 20
