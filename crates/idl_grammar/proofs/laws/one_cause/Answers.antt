use Rattle.std.proofs.Common.{Err}
use Rattle.idl_grammar.proofs.OneCause.{tells}
use Rattle.idl_grammar.proofs.OneTypeCause.{type_tells}
use Rattle.idl_grammar.proofs.laws.one_cause.Goals as goal

pub returns-clause-definitions : goal.returns-clause-definitions
returns-clause-definitions c text one other h r = tells text (Err one) h other r

pub returns-clause-types : goal.returns-clause-types
returns-clause-types c text scope one other h r = type_tells text scope (Err one) h other r
