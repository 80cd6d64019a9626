use Rattle.std.proofs.Common.{List, length, All, sym, subst}
use Rattle.std.specs.Prelude.{IsUtf8}
use Rattle.idl_token.specs.declared.tokens.Item.{Item}
use Rattle.idl_grammar.specs.FollowsType.{ReadsType}
use Rattle.idl_grammar.specs.RefusesType.{RefusesType}
use Rattle.idl_grammar.specs.declared.faults.IdlFault.{IdlFault}
use Rattle.idl_grammar.proofs.Answering.{token_cause}
use Rattle.idl_grammar.proofs.TypeAnswering.{type_of, type_token_cause}
use Rattle.idl_grammar.proofs.types.read_bare_type.Goals as goal

pub read_type_items-requires : goal.read_type_items-requires
read_type_items-requires c =
    subst (λ (items : List Item). All (λ (item : Item). IsUtf8 item.text.now) items) (sym c.as_slice.ensures) c.in-Ok.ensures.utf8

pub returns-in-Ok : goal.returns-in-Ok
returns-in-Ok c =
    type_of c.in-Ok.items c.args.text.now c.in-Ok.ensures.found c.in-Ok.ensures.places c.read_type_items.result
    (subst (λ (items : List Item). ReadsType c.read_type_items.result items (length c.args.text.now)) c.as_slice.ensures c.read_type_items.ensures)

pub returns-in-Err : goal.returns-in-Err
returns-in-Err c scope =
    subst (λ (found : IdlFault). RefusesType found c.args.text.now scope) (sym c.token_fault.ensures)
    (type_token_cause c.args.text.now scope c.in-Err.fault
    (token_cause c.args.text.now c.in-Err.fault c.in-Err.ensures.not_utf8 c.in-Err.ensures.bad_byte c.in-Err.ensures.none))
