-- Memory was wanting before the session began.
use Rattle.std.proofs.Common.{refl}
use Rattle.service_core.specs.Sheets.{bare_sheet}
use Rattle.session_core.specs.declared.stops.Stop.TheVariants as stop
use Rattle.varlink_command.proofs.SessionLemmas.{unserved}
use Rattle.varlink_command.proofs.serving.session.Goals as goal

pub returns-in-Err-clause-serves : goal.returns-in-Err-clause-serves
returns-in-Err-clause-serves g c =
    record { why = stop.Memory; served = unserved bare_sheet _ _; reads = refl; writes = refl; comes = c.outcome_of.ensures }
