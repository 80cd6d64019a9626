use Rattle.std.proofs.Common.{◌≡◌, drop}
use Rattle.std.specs.List.{list_any}
use Rattle.door_serving.specs.declared.doors.WorkerEnd.{WorkerEnd}
use Rattle.host_command.proofs.serving.any_failed.Given as goal

abbrev pub invariant-loop-end : goal.invariant-loop-end
invariant-loop-end l =
    list_any (λ (end : WorkerEnd). end.listen_failed) (drop l.end-index l.ends)
    ≡ list_any (λ (end : WorkerEnd). end.listen_failed) l.ends
