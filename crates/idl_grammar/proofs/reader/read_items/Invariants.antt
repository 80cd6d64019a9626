use Rattle.std.proofs.Common.{◌≡◌, [], map, take}
use Rattle.idl_token.specs.Lex.{lexeme}
use Rattle.idl_rules.specs.Reading.{run, Read}
use Rattle.idl_rules.specs.declared.states.State.TheVariants.{Start}
use Rattle.idl_grammar.proofs.reader.read_items.Given as goal

abbrev pub invariant-loop-item : goal.invariant-loop-item
invariant-loop-item l =
    run 64 Start [] (map lexeme (take l.item-index l.items)) ≡ Read l.progress.state l.progress.waiting
