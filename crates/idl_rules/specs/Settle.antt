-- Where notes belong. Each note loses the spaces and tabs at its end, and stands before the next
-- slot: a word that follows `(` or `,` (notes between them not counted), a `)`, one of the words
-- `interface`, `type`, `method`, `error` outside all brackets, and the end.
use Rattle.std.specs.Prelude.{ℕ, suc, zero, Bool, true, false, ◌||◌, ◌&&◌, ◌==◌, List, [], ◌∷◌, ◌++◌, drop, if◌then◌else◌, codes}
use Rattle.std.specs.Str.{bytes_eq}
use Rattle.idl_token.specs.Lex.{Bytes, Lexeme, Lexemes}
use Rattle.idl_token.specs.declared.tokens.ItemKind.TheVariants.{Word, Mark, Note}
use Rattle.idl_rules.specs.Items.{notes_items}

-- space and tab
abbrev pub is_gap : ℕ → Bool
is_gap b = b == 32 || b == 9

-- without the spaces and tabs at its end
abbrev pub before_trimmed : ℕ → Bytes → Bytes
before_trimmed b [] = if is_gap b then [] else b ∷ []
before_trimmed b (c ∷ bytes) = b ∷ c ∷ bytes

abbrev pub trimmed : Bytes → Bytes
trimmed [] = []
trimmed (b ∷ bytes) = before_trimmed b (trimmed bytes)

-- a note's text is what follows `#`
abbrev pub note_text : Bytes → Bytes
note_text spelling = trimmed (drop 1 spelling)

abbrev pub is_keyword : Bytes → Bool
is_keyword w = bytes_eq w (codes "interface") || bytes_eq w (codes "type") || bytes_eq w (codes "method") || bytes_eq w (codes "error")

-- how many brackets are open, and whether an entry of one may begin: the last item, notes not
-- counted, is `(` or `,`
pub record Here : Type 0 where
  pub depth : ℕ
  pub begins : Bool

abbrev pub outside : Here
outside = record { depth = 0; begins = false }

abbrev pub is_none : ℕ → Bool
is_none zero = true
is_none (suc n) = false

-- a word or a mark that is a slot
abbrev pub is_slot : Here → Lexeme → Bool
is_slot here (Word, spelling) = here.begins || (is_none here.depth && is_keyword spelling)
is_slot here (Mark, spelling) = bytes_eq spelling (codes ")")
is_slot here (Note, spelling) = false

abbrev pub one_less : ℕ → ℕ
one_less zero = zero
one_less (suc n) = n

abbrev pub depth_after : ℕ → Bytes → ℕ
depth_after depth spelling = if bytes_eq spelling (codes "(") then suc depth
    else (if bytes_eq spelling (codes ")") then one_less depth else depth)

-- behind a word or a mark
abbrev pub after : Here → Lexeme → Here
after here (Mark, spelling) = record { depth = depth_after here.depth spelling; begins = bytes_eq spelling (codes "(") || bytes_eq spelling (codes ",") }
after here (kind, spelling) = record { depth = here.depth; begins = false }

-- the items with each note before its slot, where `waiting` are the notes whose slot is to come
abbrev pub settled : Here → List Bytes → Lexemes → Lexemes
settled here waiting [] = notes_items waiting
settled here waiting ((Note, spelling) ∷ items) = settled here (waiting ++ note_text spelling ∷ []) items
settled here waiting (item ∷ items) = if is_slot here item
    then notes_items waiting ++ item ∷ settled (after here item) [] items
    else item ∷ settled (after here item) waiting items

abbrev pub Settle : Lexemes → Lexemes
Settle items = settled outside [] items
