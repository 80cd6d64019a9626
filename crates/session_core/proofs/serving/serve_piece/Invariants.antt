use Rattle.std.proofs.Common.{◌≡◌, false, ◌-◌, ◌≤◌, length, take}
use Rattle.session_core.specs.Went.{Went, IsReady}
use Rattle.session_core.specs.Sent.{sent}
use Rattle.session_core.proofs.serving.serve_piece.Given as goal

abbrev pub invariant-parts : goal.invariant-parts
invariant-parts g l = record {
  within : l.done ≤ length l.piece;
  went : Went g.H.Hearer.tells l.initial.session l.session (take l.done l.piece) l.initial.hearer l.hearer
      (sent (g.K.Ends.written l.initial.sink) l.initial.outbox) (sent (g.K.Ends.written l.sink) l.outbox);
  ready : IsReady l.session;
  faults : g.K.Ends.write_faults l.sink ≡ g.K.Ends.write_faults l.initial.sink;
  left : g.K.Ends.left l.sink ≡ g.K.Ends.left l.initial.sink;
  same : g.H.Hearer.same l.initial.hearer l.hearer;
  unfinished : g.K.Ends.finished l.sink ≡ false;
  read_faults : g.K.Ends.read_faults l.sink ≡ g.K.Ends.read_faults l.initial.sink;
}

abbrev pub decreases-parts : goal.decreases-parts
decreases-parts g l = length l.piece - l.done
