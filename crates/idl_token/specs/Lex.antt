-- How the text of an interface definition is cut into items: words, marks and notes, with blanks
-- between them (varlink.org, "Interface Definition": words, punctuation, and `#` for a comment up to
-- the end of its line). Definitions here know whole lists and no position but the last three.
use Rattle.std.specs.Prelude.{◌≡◌, ℕ, ◌+◌, ◌<◌, Bool, ◌||◌, ◌==◌, not, List, [], ◌∷◌, Option, Some, None, take, drop, if◌then◌else◌, length, IsUtf8}
use Rattle.std.specs.List.{prefix_len}
use Rattle.std.specs.Char.{is_ascii_alphanumeric}
use Rattle.idl_token.specs.declared.tokens.ItemKind.{ItemKind}
use Rattle.idl_token.specs.declared.tokens.ItemKind.TheVariants.{Word, Mark, Note}
use Rattle.idl_token.specs.declared.tokens.Item.{Item}

abbrev pub Bytes : Type 0
Bytes = List ℕ

-- a kind of item and its spelling
abbrev pub Lexeme : Type 0
Lexeme = ItemKind × Bytes

abbrev pub Lexemes : Type 0
Lexemes = List Lexeme

-- space, tab, CR and LF
abbrev pub is_blank : ℕ → Bool
is_blank b = b == 32 || b == 9 || b == 13 || b == 10

-- what continues a word: letters and digits of ASCII, `_`, `.` and `-`
abbrev pub is_word_byte : ℕ → Bool
is_word_byte b = is_ascii_alphanumeric b || b == 95 || b == 46 || b == 45

-- the marks of one byte: ( ) , : ? [ ]
abbrev pub is_mark : ℕ → Bool
is_mark b = b == 40 || b == 41 || b == 44 || b == 58 || b == 63 || b == 91 || b == 93

-- what continues a note: all but the end of its line, CR or LF
abbrev pub is_note_byte : ℕ → Bool
is_note_byte b = not (b == 13 || b == 10)

-- the bytes in front that pass the test, and what is behind them
abbrev pub in_front : (ℕ → Bool) → Bytes → Bytes
in_front test bytes = take (prefix_len test bytes) bytes

abbrev pub behind : (ℕ → Bool) → Bytes → Bytes
behind test bytes = drop (prefix_len test bytes) bytes

abbrev pub after_blanks : Bytes → Bytes
after_blanks text = behind is_blank text

-- a `-` that begins an item is followed by `>`
abbrev pub arrow : Bytes → Option (Lexeme × Bytes)
arrow [] = None
arrow (b ∷ bytes) = if b == 62 then Some ((Mark, 45 ∷ 62 ∷ []), bytes) else None

-- the item that begins the text, as long as possible, and the text behind it: a word begins with a
-- letter or digit, a note with `#`
abbrev pub first_item : Bytes → Option (Lexeme × Bytes)
first_item [] = None
first_item (b ∷ bytes) = if is_ascii_alphanumeric b
    then Some ((Word, b ∷ in_front is_word_byte bytes), behind is_word_byte bytes)
    else (if is_mark b then Some ((Mark, b ∷ []), bytes)
    else (if b == 35 then Some ((Note, b ∷ in_front is_note_byte bytes), behind is_note_byte bytes)
    else (if b == 45 then arrow bytes else None)))

-- the items follow each other from the front of the text, with any blanks before each, and leave
-- `rest`
abbrev pub Begins : Lexemes → Bytes → Bytes → Type 0
Begins [] text rest = text ≡ rest
Begins (item ∷ items) text rest = (more : Bytes) × (first_item (after_blanks text) ≡ Some (item, more)) × Begins items more rest

-- the text is UTF-8, and is the items in order, with any blanks before, between and after them. Since
-- items are as long as possible, two words have a blank or a note between them, and so have a word
-- and a following arrow: `a->b` is the word `a-` and a byte that begins no item
abbrev pub Lex : Lexemes → Bytes → Type 0
Lex items text = IsUtf8 text × ((rest : Bytes) × Begins items text rest × (after_blanks rest ≡ []))

-- a byte that is no blank and begins no item stands at the place, behind items and blanks
abbrev pub BadByteAt : ℕ → Bytes → Type 0
BadByteAt place text = (items : Lexemes) × (rest : Bytes) × Begins items text rest
    × (0 < length (after_blanks rest)) × (first_item (after_blanks rest) ≡ None)
    × (place + length (after_blanks rest) ≡ length text)

-- an item with its place: its kind, the number of bytes before it, its spelling
abbrev pub Placed : Type 0
Placed = ItemKind × ℕ × Bytes

-- the items with their places follow each other to the end of a text, of which `text` is what is left
-- and `whole` the whole length
abbrev pub LexAt : ℕ → List Placed → Bytes → Type 0
LexAt whole [] text = after_blanks text ≡ []
LexAt whole (item ∷ items) text = (more : Bytes) × (first_item (after_blanks text) ≡ Some ((item.0, item.2), more))
    × (item.1 + length (after_blanks text) ≡ whole) × LexAt whole items more

-- what an `Item` shows, without and with its place
abbrev pub lexeme : Item → Lexeme
lexeme item = (item.kind, item.text.now)

abbrev pub placed : Item → Placed
placed item = (item.kind, item.at, item.text.now)
