use Rattle.std.proofs.Common.{Err, Ok, ap, ◌∙◌}
use Rattle.host_command.proofs.resolving.serve_bound.Goals as goal

pub returns-in-Ok : goal.returns-in-Ok
returns-in-Ok g c = record {
  serves = record {
    bound = Ok c.in-Ok.doors.items;
    doors = record { count = c.in-Ok.ensures.count; unused = c.in-Ok.ensures.unused; within = c.in-Ok.ensures.within };
    log = c.serve_doors.ensures.log ∙ c.in-Ok.ensures.log;
    faults = c.serve_doors.ensures.faults ∙ c.in-Ok.ensures.fault;
    becomes = c.serve_doors.ensures.serves;
  };
}

pub returns-in-Err : goal.returns-in-Err
returns-in-Err g c = record {
  serves = record {
    bound = Err c.in-Err.why;
    doors = tt;
    log = c.in-Err.ensures.log;
    faults = c.in-Err.ensures.fault;
    becomes = (c.in-Err.ensures.freed, ap Err c.bind_fault.ensures);
  };
}
