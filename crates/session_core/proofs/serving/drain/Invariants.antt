use Rattle.std.proofs.Common.{◌≡◌, false, [], length}
use Rattle.session_core.specs.Went.{Went, IsRunning}
use Rattle.session_core.specs.Sent.{sent}
use Rattle.session_core.proofs.serving.drain.Given as goal

abbrev pub invariant-calls : goal.invariant-calls
invariant-calls g l = record {
  went : Went g.H.Hearer.tells l.initial.session l.session [] l.initial.hearer l.hearer
      (sent (g.K.Ends.written l.initial.sink) l.initial.outbox) (sent (g.K.Ends.written l.sink) l.outbox);
  running : IsRunning l.session.phase;
  faults : g.K.Ends.write_faults l.sink ≡ g.K.Ends.write_faults l.initial.sink;
  left : g.K.Ends.left l.sink ≡ g.K.Ends.left l.initial.sink;
  same : g.H.Hearer.same l.initial.hearer l.hearer;
  unfinished : g.K.Ends.finished l.sink ≡ false;
  read_faults : g.K.Ends.read_faults l.sink ≡ g.K.Ends.read_faults l.initial.sink;
}

abbrev pub decreases-calls : goal.decreases-calls
decreases-calls g l = length l.session.held
