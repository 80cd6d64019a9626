use Rattle.std.proofs.Common.{ap}
use Rattle.work_sample.specs.Sinks.{Growing}
use Rattle.work_sample.proofs.Served.{serves, same-ok}
use Rattle.work_sample.proofs.works.serve.Goals as goal

pub returns-in-Ok : goal.returns-in-Ok
returns-in-Ok c = serves c.args.service.now c.args.calls c.ended_of-ended.result (record {
  a = c.in-Ok.alone;
  b = c.serve_alone-stop.new.answerer;
  from = c.in_ok-source.source;
  left = c.serve_alone-stop.new.source;
  sunk = c.new-sink.result.written;
  written = c.serve_alone-stop.new.sink.written;
  why = c.serve_alone-stop.result;
  replies = c.len.result;
  registers = c.registers.result.now;
  begins = c.in-Ok.ensures;
  all = same-ok c.new.result _ _ c.in_ok-source.was c.new.ensures;
  none = ap (λ (sink : Growing). sink.written) c.new-sink.ensures;
  count = c.len.ensures;
  last = c.registers.ensures;
  tells = c.ended_of-ended.ensures;
  served = c.serve_alone-stop.ensures.served;
})
