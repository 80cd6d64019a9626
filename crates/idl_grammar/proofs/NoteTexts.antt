-- the text of a note that has its form
use Rattle.std.proofs.Common.{◌≡◌, ◌&&◌, ◌||◌, not, eqb, true, List, [], ◌∷◌, All, IsUtf8, map, length, ◌-◌, get_or, ap, sym, ◌∙◌}
use Rattle.std.specs.List.{list_all}
use Rattle.std.specs.Str.{is_utf8}
use Rattle.std.proofs.lemmas.Bool.{and_parts}
use Rattle.std.proofs.lemmas.Str.{IsUtf8-from_is_utf8}
use Rattle.std.proofs.lemmas.List.Elements.{All-nil, All-cons, All-head, All-tail}
use Rattle.idl_token.specs.Lex.{Bytes, lexeme}
use Rattle.idl_token.specs.declared.tokens.Item.{Item}
use Rattle.idl_token.specs.declared.tokens.ItemKind.{ItemKind}
use Rattle.idl_token.specs.declared.tokens.ItemKind.TheVariants.{Note}
use Rattle.idl_tree.specs.Form.{is_note}
use Rattle.idl_rules.specs.Settle.{note_text, is_gap}
use Rattle.idl_rules.specs.Reading.{note_good}
use Rattle.idl_grammar.specs.Follows.{IsReadable}

form_utf8 : (text : Bytes) → is_note text ≡ true → IsUtf8 text
form_utf8 text h =
    IsUtf8-from_is_utf8 text (and_parts (is_utf8 text) (list_all (λ b. not (eqb b 13 || eqb b 10)) text)
    (and_parts (is_utf8 text && list_all (λ b. not (eqb b 13 || eqb b 10)) text) (not (is_gap (get_or text (length text - 1) 0))) h).0).0

pub note_utf8 : (item : Item) → item.kind ≡ Note → IsReadable item → IsUtf8 (note_text item.text.now)
note_utf8 item is_note readable =
    form_utf8 (note_text item.text.now) (ap (λ (kind : ItemKind). note_good (kind, item.text.now)) (sym is_note) ∙ readable.1)

pub all_readable : (items : List Item) → All (λ (item : Item). IsUtf8 item.text.now) items → list_all note_good (map lexeme items) ≡ true → All IsReadable items
all_readable [] utf8 good = All-nil IsReadable
all_readable (item ∷ items) utf8 good =
    let p = and_parts (note_good (lexeme item)) (list_all note_good (map lexeme items)) good in
    All-cons IsReadable item items (All-head (λ (i : Item). IsUtf8 i.text.now) item items utf8, p.0)
    (all_readable items (All-tail (λ (i : Item). IsUtf8 i.text.now) item items utf8) p.1)
