-- Memory was wanting when the sheet was read and before the session began.
use Rattle.std.proofs.Common.{Ok, refl}
use Rattle.session_core.specs.declared.stops.Stop.TheVariants as stop
use Rattle.varlink_command.proofs.SessionLemmas.{unserved}
use Rattle.varlink_command.proofs.serving.sheet_session.Goals as goal

pub returns-in-Err-new-clause-serves : goal.returns-in-Err-new-clause-serves
returns-in-Err-new-clause-serves g c = record {
  read = Ok c.in-Ok.sheet;
  reads = c.in-Ok.ensures.reads;
  counted = c.in-Ok.ensures.counted;
  asked = c.in-Ok.ensures.asked;
  serves = record { why = stop.Memory; served = unserved c.in-Ok.sheet _ _; reads = refl; writes = refl; comes = c.outcome_of.ensures };
}
