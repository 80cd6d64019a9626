-- The grammar of an interface definition as a value, what it spells whole, and what it begins with
-- (varlink.org, "Interface Definition"). Notes are left out, and brackets of any depth are lawful.
use Rattle.std.specs.Prelude.{◌≡◌, Bool, true, false, [], ◌∷◌, ◌++◌, codes}
use Rattle.idl_token.specs.Lex.{Bytes, Lexeme, Lexemes}
use Rattle.idl_tree.specs.Names.{is_interface_name, is_member_name, is_field_name}
use Rattle.std.specs.Str.{bytes_eq}
use Rattle.idl_token.specs.declared.tokens.ItemKind.TheVariants.{Word, Mark}

pub data Grammar : Type 0 where
  one : (Lexeme → Bool) → Grammar
  in_row : Grammar → Grammar → Grammar
  either : Grammar → Grammar → Grammar
  many : Grammar → Grammar
  a_type : Grammar

abbrev pub is_word_of : Bytes → Lexeme → Bool
is_word_of spelling (Word, word) = bytes_eq word spelling
is_word_of spelling item = false

abbrev pub is_mark_of : Bytes → Lexeme → Bool
is_mark_of spelling (Mark, mark) = bytes_eq mark spelling
is_mark_of spelling item = false

abbrev pub is_name_of : (Bytes → Bool) → Lexeme → Bool
is_name_of form (Word, word) = form word
is_name_of form item = false

abbrev pub the_word : Bytes → Grammar
the_word spelling = one (is_word_of spelling)

abbrev pub the_mark : Bytes → Grammar
the_mark spelling = one (is_mark_of spelling)

abbrev pub a_name : (Bytes → Bool) → Grammar
a_name form = one (is_name_of form)

abbrev pub field : Grammar
field = in_row (a_name is_field_name) (in_row (the_mark (codes ":")) a_type)

-- `(` `)`, or `(` entry { `,` entry } `)`
abbrev pub a_list : Grammar → Grammar
a_list entry = in_row (the_mark (codes "(")) (in_row entry (in_row (many (in_row (the_mark (codes ",")) entry)) (the_mark (codes ")"))))

abbrev pub a_struct : Grammar
a_struct = either (in_row (the_mark (codes "(")) (the_mark (codes ")"))) (a_list field)

abbrev pub body : Grammar
body = either a_struct (a_list (a_name is_field_name))

abbrev pub plain : Grammar
plain = either (in_row (the_mark (codes "[")) (in_row (the_mark (codes "]")) a_type))
    (either (in_row (the_mark (codes "[")) (in_row (the_word (codes "string")) (in_row (the_mark (codes "]")) a_type)))
    (either (either (the_word (codes "bool")) (either (the_word (codes "int")) (either (the_word (codes "float")) (either (the_word (codes "string")) (the_word (codes "object"))))))
    (either (a_name is_member_name) body)))

-- plain, or `?` plain
abbrev pub type_rule : Grammar
type_rule = either plain (in_row (the_mark (codes "?")) plain)

abbrev pub member : Grammar
member = either (in_row (the_word (codes "type")) (in_row (a_name is_member_name) body))
    (either (in_row (the_word (codes "method")) (in_row (a_name is_member_name) (in_row a_struct (in_row (the_mark (codes "->")) a_struct))))
    (in_row (the_word (codes "error")) (in_row (a_name is_member_name) a_struct)))

abbrev pub definition : Grammar
definition = in_row (the_word (codes "interface")) (in_row (a_name is_interface_name) (many member))

-- the items are a whole spelling
pub data Whole : Grammar → Lexemes → Type 0 where
  an_item : {test : Lexeme → Bool} {item : Lexeme} → test item ≡ true → Whole (one test) (item ∷ [])
  a_row : {first next : Grammar} {items more all : Lexemes} → Whole first items → Whole next more → all ≡ items ++ more → Whole (in_row first next) all
  on_left : {left right : Grammar} {items : Lexemes} → Whole left items → Whole (either left right) items
  on_right : {left right : Grammar} {items : Lexemes} → Whole right items → Whole (either left right) items
  no_turn : {turn : Grammar} → Whole (many turn) []
  a_turn : {turn : Grammar} {items more all : Lexemes} → Whole turn items → Whole (many turn) more → all ≡ items ++ more → Whole (many turn) all
  the_type : {items : Lexemes} → Whole type_rule items → Whole a_type items

-- the items are a front: nothing or a whole spelling of any part; whole spellings of the first parts of
-- a row and a front of the next one; a front of one of the choices; whole turns and a front of one more
pub data Front : Grammar → Lexemes → Type 0 where
  nothing : {part : Grammar} → Front part []
  whole : {part : Grammar} {items : Lexemes} → Whole part items → Front part items
  of_first : {first next : Grammar} {items : Lexemes} → Front first items → Front (in_row first next) items
  of_next : {first next : Grammar} {items more all : Lexemes} → Whole first items → Front next more → all ≡ items ++ more → Front (in_row first next) all
  of_left : {left right : Grammar} {items : Lexemes} → Front left items → Front (either left right) items
  of_right : {left right : Grammar} {items : Lexemes} → Front right items → Front (either left right) items
  of_turn : {turn : Grammar} {items more all : Lexemes} → Whole (many turn) items → Front turn more → all ≡ items ++ more → Front (many turn) all
  of_type : {items : Lexemes} → Front type_rule items → Front a_type items
