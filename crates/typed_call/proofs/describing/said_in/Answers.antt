use Rattle.typed_call.proofs.Answering.{memory-said}
use Rattle.typed_call.proofs.describing.said_in.Goals as goal

pub returns-in-Err-Memory : goal.returns-in-Err-Memory
returns-in-Err-Memory c = memory-said c.args.method.now c.args.printed.now c.requires
