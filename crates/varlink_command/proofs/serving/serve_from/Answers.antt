-- The session's stop is what the command comes to.
use Rattle.std.proofs.Common.{refl}
use Rattle.session_core.specs.declared.stops.Stop.TheVariants as stop
use Rattle.varlink_command.proofs.SessionLemmas.{SessionServed-of, unserved}
use Rattle.varlink_command.proofs.serving.serve_from.Goals as goal

pub returns-in-Ok-clause-serves : goal.returns-in-Ok-clause-serves
returns-in-Ok-clause-serves g c =
    let why = c.serve_alone-stop.result in
    record {
      why = why;
      served = SessionServed-of c.args.service.now _ _ _ _ _ _ why c.in-Ok.ensures c.serve_alone-stop.ensures.served;
      reads = c.serve_alone-stop.ensures.reads;
      writes = c.serve_alone-stop.ensures.writes;
      comes = refl;
    }

pub returns-in-Err-clause-serves : goal.returns-in-Err-clause-serves
returns-in-Err-clause-serves g c =
    record { why = stop.Memory; served = unserved c.args.service.now _ _; reads = refl; writes = refl; comes = refl }
