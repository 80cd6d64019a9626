use Rattle.std.proofs.Common.{◌≡◌, rules, sym}
use Rattle.idl_token.specs.declared.tokens.ItemKind.TheVariants.{Note}
use Rattle.idl_token.specs.contracts.tokens.ItemKind.{the_type}
use denote.Enum.Bare.{same_true}
use Rattle.idl_grammar.proofs.NoteTexts.{note_utf8}
use Rattle.idl_grammar.proofs.reader.read_item.Goals as goal

pub with_note-requires : goal.with_note-requires
with_note-requires c =
    let is : c.args.item.now.kind ≡ Note = same_true the_type (search rules) _ _ (sym c.if-eq.ensures) in
    note_utf8 c.args.item.now is c.requires
