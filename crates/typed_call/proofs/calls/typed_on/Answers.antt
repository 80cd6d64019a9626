use Rattle.std.proofs.Common.{ℕ, List, Ok, Err, refl, subst}
use Rattle.link_reach.specs.Worlds.{left_of}
use Rattle.link_exchange.specs.Stands.{stand}
use Rattle.typed_call.specs.TypedCalls.{DescribedFirst}
use Rattle.typed_call.proofs.Answering.{called-typed, sound-sink}
use Rattle.typed_call.proofs.calls.typed_on.Goals as goal

pub returns-in-Ok-clause-typed : goal.returns-in-Ok-clause-typed
returns-in-Ok-clause-typed g c = record {
  mid = stand (g.R.Reach.log c.described_on.new.reach) (left_of (g.R.Reach.leads c.described_on.new.reach c.args.link.0)) (g.K.Ends.written c.args.sink.now) c.described_on.new.inbox;
  answer = Ok c.in-Ok.described;
  first = subst (λ (word : List ℕ). DescribedFirst word c.args.link.0
      (stand (g.R.Reach.log c.args.reach.now) (left_of (g.R.Reach.leads c.args.reach.now c.args.link.0)) (g.K.Ends.written c.args.sink.now) c.args.inbox.now)
      (stand (g.R.Reach.log c.described_on.new.reach) (left_of (g.R.Reach.leads c.described_on.new.reach c.args.link.0)) (g.K.Ends.written c.args.sink.now) c.described_on.new.inbox)
      (Ok c.in-Ok.described)) c.as_str.ensures (c.in-Ok.ensures.first (g.K.Ends.written c.args.sink.now));
  silent = refl;
  goes_on = (c.call_on-end.result, refl, called-typed c.in-Ok.described c.args.call.now _ _ c.args.link.0 _ _ _ c.call_on-end.result c.lines_of-asking.ensures c.requires.text c.call_on-end.ensures.called);
}

pub returns-in-Err-clause-typed : goal.returns-in-Err-clause-typed
returns-in-Err-clause-typed g c = record {
  mid = stand (g.R.Reach.log c.described_on.new.reach) (left_of (g.R.Reach.leads c.described_on.new.reach c.args.link.0)) (g.K.Ends.written c.args.sink.now) c.described_on.new.inbox;
  answer = Err c.in-Err.end;
  first = subst (λ (word : List ℕ). DescribedFirst word c.args.link.0
      (stand (g.R.Reach.log c.args.reach.now) (left_of (g.R.Reach.leads c.args.reach.now c.args.link.0)) (g.K.Ends.written c.args.sink.now) c.args.inbox.now)
      (stand (g.R.Reach.log c.described_on.new.reach) (left_of (g.R.Reach.leads c.described_on.new.reach c.args.link.0)) (g.K.Ends.written c.args.sink.now) c.described_on.new.inbox)
      (Err c.in-Err.end)) c.as_str.ensures (c.in-Err.ensures.first (g.K.Ends.written c.args.sink.now));
  silent = refl;
  goes_on = (refl, c.close.ensures.log, refl);
}

pub returns-in-Err-clause-write_faults : goal.returns-in-Err-clause-write_faults
returns-in-Err-clause-write_faults g c = sound-sink c.in-Err.end _ c.in-Err.ensures.faults.1
