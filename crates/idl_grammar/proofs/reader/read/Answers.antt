use Rattle.std.proofs.Common.{Err}
use Rattle.idl_grammar.proofs.Answering.{named, complete}
use Rattle.idl_grammar.proofs.OneCause.{tells}
use Rattle.idl_grammar.proofs.reader.read.Goals as goal

pub returns-in-Ok-clause-answer : goal.returns-in-Ok-clause-answer
returns-in-Ok-clause-answer c =
    named c.args.text.now c.in-Ok.tree c.check_names.result c.in-Ok.ensures.0 c.in-Ok.ensures.1 c.check_names.ensures

pub returns-in-Ok-clause-complete : goal.returns-in-Ok-clause-complete
returns-in-Ok-clause-complete c = complete c.args.text.now c.check_names.result (returns-in-Ok-clause-answer c)

pub returns-in-Err-clause-complete : goal.returns-in-Err-clause-complete
returns-in-Err-clause-complete c = complete c.args.text.now (Err c.in-Err.fault) c.in-Err.ensures

pub returns-in-Ok-clause-refused : goal.returns-in-Ok-clause-refused
returns-in-Ok-clause-refused c = tells c.args.text.now c.check_names.result (returns-in-Ok-clause-answer c)

pub returns-in-Err-clause-refused : goal.returns-in-Err-clause-refused
returns-in-Err-clause-refused c = tells c.args.text.now (Err c.in-Err.fault) c.in-Err.ensures
