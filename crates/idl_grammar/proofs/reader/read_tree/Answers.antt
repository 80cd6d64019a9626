use Rattle.std.proofs.Common.{List, map, length, All, sym, subst}
use Rattle.idl_token.specs.Lex.{lexeme}
use Rattle.idl_token.specs.declared.tokens.Item.{Item}
use Rattle.idl_rules.proofs.Uniqueness.{lex_good}
use Rattle.idl_grammar.specs.Follows.{IsReadable, Reads}
use Rattle.idl_grammar.specs.Refuses.{Refuses}
use Rattle.idl_grammar.specs.declared.faults.IdlFault.{IdlFault}
use Rattle.idl_grammar.proofs.Answering.{tree_of, token_cause}
use Rattle.idl_grammar.proofs.NoteTexts.{all_readable}
use Rattle.idl_grammar.proofs.reader.read_tree.Goals as goal

pub read_items-requires : goal.read_items-requires
read_items-requires c =
    subst (λ (items : List Item). All IsReadable items) (sym c.as_slice.ensures)
    (all_readable c.in-Ok.items c.in-Ok.ensures.utf8 (lex_good (map lexeme c.in-Ok.items) c.args.text.now c.in-Ok.ensures.found))

pub returns-in-Ok : goal.returns-in-Ok
returns-in-Ok c =
    tree_of c.in-Ok.items c.args.text.now c.in-Ok.ensures.found c.in-Ok.ensures.places c.read_items.result
    (subst (λ (items : List Item). Reads c.read_items.result items (length c.args.text.now)) c.as_slice.ensures c.read_items.ensures)

pub returns-in-Err : goal.returns-in-Err
returns-in-Err c =
    subst (λ (found : IdlFault). Refuses found c.args.text.now) (sym c.token_fault.ensures)
    (token_cause c.args.text.now c.in-Err.fault c.in-Err.ensures.not_utf8 c.in-Err.ensures.bad_byte c.in-Err.ensures.none)
