use Rattle.std.proofs.Common.{Some, ap, sym}
use Rattle.typed_call.proofs.Answering.{describes-nothing, faults-of}
use Rattle.typed_call.proofs.OneLine.{one_line, all_typed}
use Rattle.typed_call.proofs.describing.describe.Goals as goal

pub returns-in_default-clause-describes : goal.returns-in_default-clause-describes
returns-in_default-clause-describes g c = λ written. describes-nothing c.args.interface.now c.args.method.now c.args.link.0 _

pub returns-in-Err-clause-describes : goal.returns-in-Err-clause-describes
returns-in-Err-clause-describes g c = λ written. describes-nothing c.args.interface.now c.args.method.now c.args.link.0 _

pub returns-in-Ok-new-clause-faults : goal.returns-in-Ok-new-clause-faults
returns-in-Ok-new-clause-faults g c = faults-of c.args.method.now _ c.exchange-end.result _ _ _ c.answer_of-answer.ensures c.exchange-end.ensures.link_faults

pub answer_of-answer-requires-clause-typed : goal.answer_of-answer-requires-clause-typed
answer_of-answer-requires-clause-typed g c = all_typed c.args.interface.now _ c.args.link.0 _ _ c.exchange-end.result c.exchange-end.ensures.exchanged

pub answer_of-answer-requires-clause-line : goal.answer_of-answer-requires-clause-line
answer_of-answer-requires-clause-line g c = λ last.
    one_line c.args.interface.now _ c.args.link.0 _ _ c.bytes.result.now c.exchange-end.result c.exchange-end.ensures.exchanged
    (ap (λ sink. Some sink.written) c.in-Ok-new.ensures) (ap Some (sym c.bytes.ensures)) last
