use Rattle.std.proofs.Common.{◌≡◌, ℕ, false, ◌-◌, List, []}
use Rattle.std.specs.Io.KnownBytes.{Consumes}
use Rattle.session_core.specs.Limits.{most_bytes}
use Rattle.session_core.specs.Sent.{sent}
use Rattle.session_core.specs.Went.{Went, IsReady}
use Rattle.session_core.proofs.links.serve_ends.Given as goal

abbrev pub invariant-takes : goal.invariant-takes
invariant-takes g l = record {
  fed : List ℕ;
  consumed : Consumes (g.W.Way.left l.initial.from l.initial.to) (g.W.Way.left l.from l.to) fed;
  went : Went g.H.Hearer.tells l.initial.session l.session fed l.initial.hearer l.hearer
      (sent (g.W.Way.written l.initial.from l.initial.to) l.initial.outbox) (sent (g.W.Way.written l.from l.to) l.outbox);
  ready : IsReady l.session;
  empty : l.outbox.bytes ≡ [];
  reads : g.W.Way.read_faults l.from l.to ≡ g.W.Way.read_faults l.initial.from l.initial.to;
  writes : g.W.Way.write_faults l.from l.to ≡ g.W.Way.write_faults l.initial.from l.initial.to;
  aside : g.W.Way.aside l.from l.to ≡ g.W.Way.aside l.initial.from l.initial.to;
  same : g.H.Hearer.same l.initial.hearer l.hearer;
  unfinished : g.W.Way.finished l.from l.to ≡ false;
}

abbrev pub decreases-takes : goal.decreases-takes
decreases-takes g l = most_bytes - l.session.taken
