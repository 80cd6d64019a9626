use Rattle.std.proofs.Common.{rules}
use mir.Syntax.{named}
use denote.Exit.{no}
use denote.Param.{param}
use Rattle.door_serving.specs.Conversations.{GoesOn}
use Rattle.door_host.specs.Doors.{kind_of, Worked}
use Rattle.door_host.proofs.Lists.{zip_from_places}
use Rattle.door_host.proofs.Sharing.{worker_send}
use Rattle.door_host.proofs.rounds.work_all.Goals as goal

pub each-requires-send-W : goal.each-requires-send-W
each-requires-send-W g c κs within =
    let d = c.type_bounds.send-D in
    let l = c.type_bounds.send-L in
    worker_send (record { mir = named 6; lft = κs.1.1.1.1.1.1.0 }) (param 1 g.row.D) (param 3 g.row.L) g.L.Ledger _ no d l

pub returns : goal.returns
returns g c =
    zip_from_places
    (λ keeper after. Worked (kind_of g.D.Listener.stated g.D.Listener.given g.D.Listener.faults g.D.Listener.coming g.D.Listener.back g.D.Conn.Ends.left g.D.Conn.Ends.written) keeper.seated after.seated keeper.door after.door after.end × GoesOn keeper.seated after.seated)
    c.args.keepers.now c.each.new.workers (search rules) (λ i w low. c.each.ensures.done i w low)
