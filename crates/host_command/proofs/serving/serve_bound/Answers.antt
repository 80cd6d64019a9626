use Rattle.std.proofs.Common.{Err, Ok, ap, ◌∙◌, refl, inl, inr}
use Rattle.host_command.proofs.serving.serve_bound.Goals as goal

pub returns-in-Ok-clause-serves : goal.returns-in-Ok-clause-serves
returns-in-Ok-clause-serves g c = record {
  bound = Ok c.in-Ok.doors.items;
  doors = record { count = c.in-Ok.ensures.count; unused = c.in-Ok.ensures.unused; within = c.in-Ok.ensures.within };
  log = c.serve_doors.ensures.log ∙ c.in-Ok.ensures.log;
  faults = c.serve_doors.ensures.faults ∙ c.in-Ok.ensures.fault;
  becomes = elim c.serve_doors.ensures.serves [
    | inl was ↦ inl (record { left = was.left; entries = was.entries; failed = was.failed; served = was.served; freed = was.freed; shows = was.shows })
    | inr was ↦ inr (record { freed = was.freed; output = was.output; comes = was.comes })
  ];
}

pub returns-in-Err-clause-serves : goal.returns-in-Err-clause-serves
returns-in-Err-clause-serves g c = record {
  bound = Err c.in-Err.why;
  doors = tt;
  log = c.in-Err.ensures.log;
  faults = c.in-Err.ensures.fault;
  becomes = record { freed = c.in-Err.ensures.freed; output = (refl, refl); comes = ap Err c.bind_fault.ensures };
}
