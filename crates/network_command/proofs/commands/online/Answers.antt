-- The command ran, and what it came to is told.
use Rattle.std.proofs.Common.{subst}
use Rattle.network_command.specs.Online.{Concludes}
use Rattle.network_command.proofs.commands.online.Goals as goal

pub returns-clause-runs : goal.returns-clause-runs
returns-clause-runs g c = record {
  outcome = c.run-outcome.result;
  ran = c.run-outcome.ensures.ran;
  told = subst (λ (faults : g.row.E.Denot). Concludes c.run-outcome.result
      (record { left = g.E.Ends.left faults; read_faults = g.E.Ends.read_faults faults; written = g.E.Ends.written faults; write_faults = g.E.Ends.write_faults faults; finished = g.E.Ends.finished faults })
      (record { left = g.E.Ends.left c.conclude.new.faults; read_faults = g.E.Ends.read_faults c.conclude.new.faults; written = g.E.Ends.written c.conclude.new.faults; write_faults = g.E.Ends.write_faults c.conclude.new.faults; finished = g.E.Ends.finished c.conclude.new.faults })
      c.conclude.result.0)
      c.run-outcome.ensures.faults c.conclude.ensures.told;
}
