use Rattle.std.proofs.Common.{◌≡◌, [], map, take}
use Rattle.idl_token.specs.Lex.{lexeme}
use Rattle.idl_rules.specs.Reading.{Read}
use Rattle.idl_types.specs.TypeReading.{at_type, type_run}
use Rattle.idl_grammar.proofs.types.read_type_items.Given as goal

abbrev pub invariant-loop-item : goal.invariant-loop-item
invariant-loop-item l = type_run 64 at_type (map lexeme (take l.item-index l.items)) ≡ Read l.state []
