-- The command ran, and what it came to is told.
use Rattle.std.proofs.Common.{ℕ, List, subst}
use Rattle.varlink_command.specs.Ends.{Object}
use Rattle.varlink_command.specs.Offline.{Concludes}
use Rattle.varlink_command.proofs.Telling.{Ran-told}
use Rattle.varlink_command.proofs.commands.offline.Goals as goal

pub returns-clause-runs : goal.returns-clause-runs
returns-clause-runs g c =
    let ends = g.E.Ends in
    let seen : g.row.E.Denot → Object = λ faults. record {
      left = ends.left faults;
      read_faults = ends.read_faults faults;
      written = ends.written faults;
      write_faults = ends.write_faults faults;
      finished = ends.finished faults;
    } in
    let after = seen c.conclude.new.faults in
    let outcome = c.run-outcome.result in
    let status = c.conclude.result.0 in
    record {
      outcome = outcome;
      ran = Ran-told _ _ _ _ _ after outcome c.run-outcome.ensures.ran;
      told = subst (λ (path : List ℕ). Concludes path outcome (seen c.args.world.now.faults) after status) c.path_told-path.ensures
          (subst (λ (faults : g.row.E.Denot). Concludes c.path_told-path.result.now outcome (seen faults) after status) c.run-outcome.ensures.faults
          c.conclude.ensures.told);
    }
