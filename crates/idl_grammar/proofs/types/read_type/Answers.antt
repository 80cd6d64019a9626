use Rattle.std.proofs.Common.{Err}
use Rattle.idl_grammar.proofs.TypeAnswering.{type_named, type_complete}
use Rattle.idl_grammar.proofs.OneTypeCause.{type_tells}
use Rattle.idl_grammar.proofs.types.read_type.Goals as goal

pub returns-in-Ok-clause-answer : goal.returns-in-Ok-clause-answer
returns-in-Ok-clause-answer c =
    type_named c.args.text.now c.args.scope.now c.in-Ok.of c.check_used_names.result c.in-Ok.ensures.0 c.in-Ok.ensures.1 c.check_used_names.ensures

pub returns-in-Ok-clause-complete : goal.returns-in-Ok-clause-complete
returns-in-Ok-clause-complete c = type_complete c.args.text.now c.args.scope.now c.check_used_names.result (returns-in-Ok-clause-answer c)

pub returns-in-Err-clause-answer : goal.returns-in-Err-clause-answer
returns-in-Err-clause-answer c = c.in-Err.ensures c.args.scope.now

pub returns-in-Err-clause-complete : goal.returns-in-Err-clause-complete
returns-in-Err-clause-complete c = type_complete c.args.text.now c.args.scope.now (Err c.in-Err.fault) (c.in-Err.ensures c.args.scope.now)

pub returns-in-Ok-clause-refused : goal.returns-in-Ok-clause-refused
returns-in-Ok-clause-refused c = type_tells c.args.text.now c.args.scope.now c.check_used_names.result (returns-in-Ok-clause-answer c)

pub returns-in-Err-clause-refused : goal.returns-in-Err-clause-refused
returns-in-Err-clause-refused c =
    type_tells c.args.text.now c.args.scope.now (Err c.in-Err.fault) (c.in-Err.ensures c.args.scope.now)
