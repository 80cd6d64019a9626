-- why a text is refused, and what is read of one that is accepted
use Rattle.std.specs.Prelude.{◌≡◌, ◌⊎◌, ℕ, ◌<◌, ◌≤◌, List, [], ◌∷◌, ◌++◌, map, length, Result, Ok, Err, Some, IsUtf8}
use Rattle.std.specs.Str.Lossy.{utf8_valid_len}
use Rattle.idl_token.specs.Lex.{Bytes, Lexeme, Lexemes, Placed, Lex, LexAt, BadByteAt}
use Rattle.idl_rules.specs.Items.{left_bracket}
use Rattle.idl_token.specs.declared.tokens.TokenFault.TheVariants as token
use Rattle.idl_tree.specs.Form.{Deep}
use Rattle.idl_tree.specs.Faults.{first_fault}
use Rattle.idl_tree.specs.declared.trees.Interface.{Interface}
use Rattle.idl_tree.specs.declared.faults.NameFault.{NameFault}
use Rattle.idl_tree.specs.declared.faults.NameFault.TheVariants as name
use Rattle.idl_rules.specs.Spells.{Spells, Accepts, greatest_depth, depth_at_end}
use Rattle.idl_rules.specs.Grammar.{Front, definition}
use Rattle.idl_fronts.specs.Bare.{without_notes}
use Rattle.idl_grammar.specs.declared.faults.IdlFault.{IdlFault}
use Rattle.idl_grammar.specs.declared.faults.IdlFault.TheVariants as fault

-- the text is cut into items
abbrev pub HasLex : Bytes → Type 0
HasLex text = (items : Lexemes) × Lex items text

-- an item without its place
abbrev pub unplaced : Placed → Lexeme
unplaced item = (item.0, item.2)

abbrev pub bare : List Placed → Lexemes
bare items = map unplaced items

-- the items, notes left out, are a front of the grammar, brackets of any depth lawful
abbrev pub BeginsDefinition : Lexemes → Type 0
BeginsDefinition items = Front definition (without_notes items)

-- the text's items are those in front, one at that place, and the rest
pub record Stands (text : Bytes) (front : List Placed) (item : Placed) (rest : List Placed) (at : ℕ) : Type 0 where
  pub items : LexAt (length text) (front ++ item ∷ rest) text
  pub place : item.1 ≡ at

-- the item at the place is the first with which the items so far do not begin what is read, brackets of
-- any depth lawful, and no bracket before it is too deep
pub record StrayAt (begins : Lexemes → Type 0) (text : Bytes) (at : ℕ) : Type 0 where
  pub front : List Placed
  pub item : Placed
  pub rest : List Placed
  pub stands : Stands text front item rest at
  pub goes : begins (bare front)
  pub stops : begins (bare front ++ unplaced item ∷ []) → ⊥
  pub within : greatest_depth 0 (bare front) ≤ 64

-- all items begin what is read, no bracket is too deep, and the place is the end of the text, where
-- something is missing if they are not the whole
pub record MissingAt (begins : Lexemes → Type 0) (text : Bytes) (at : ℕ) : Type 0 where
  pub items : Lexemes
  pub lex : Lex items text
  pub place : at ≡ length text
  pub goes : begins items
  pub within : greatest_depth 0 items ≤ 64

-- the first item with which nothing goes on, or the end where something is missing
abbrev pub StopsIn : (Lexemes → Type 0) → Bytes → ℕ → Type 0
StopsIn begins text at = StrayAt begins text at ⊎ MissingAt begins text at

-- the item at the place is the first `(` with which more than 64 are open, and the items up to it begin
-- what is read, brackets of any depth lawful
pub record DeepAt (begins : Lexemes → Type 0) (text : Bytes) (at : ℕ) : Type 0 where
  pub front : List Placed
  pub item : Placed
  pub rest : List Placed
  pub stands : Stands text front item rest at
  pub bracket : unplaced item ≡ left_bracket
  pub goes : begins (bare front ++ unplaced item ∷ [])
  pub within : greatest_depth 0 (bare front) ≤ 64
  pub beyond : depth_at_end 0 (bare front) ≡ 64

-- the text spells a tree with at most 64 brackets open, and that is the first fault of its names
abbrev pub Misnames : NameFault → Bytes → Type 0
Misnames found text = (tree : Interface) × Spells tree text × (Deep tree ≤ 64) × (first_fault tree ≡ Some found)

abbrev pub RefusesNames : NameFault → Bytes → Type 0
RefusesNames name.Memory text = ⊥
RefusesNames found text = Misnames found text

-- the cause of a refusal
abbrev pub Refuses : IdlFault → Bytes → Type 0
Refuses (fault.Token (token.NotUtf8 at)) text = (IsUtf8 text → ⊥) × (at ≡ utf8_valid_len text)
Refuses (fault.Token (token.BadByte at)) text = IsUtf8 text × BadByteAt at text × ((items : Lexemes) → Lex items text → ⊥)
Refuses (fault.Token token.Memory) text = ⊥
Refuses (fault.Syntax at) text = HasLex text × ((tree : Interface) → Spells tree text → ⊥) × StopsIn BeginsDefinition text at
Refuses (fault.TooDeep at) text = HasLex text × ((tree : Interface) → Spells tree text → 64 < Deep tree) × DeepAt BeginsDefinition text at
Refuses (fault.Name found) text = RefusesNames found text
Refuses fault.Memory text = Unit {0}

-- the tree that is accepted, or the cause of a refusal
abbrev pub Answers : Result Interface IdlFault → Bytes → Type 0
Answers (Ok tree) text = Accepts text tree
Answers (Err found) text = Refuses found text

-- the answer for a text that is accepted as the tree
abbrev pub Gives : Result Interface IdlFault → Interface → Type 0
Gives (Ok given) tree = given ≡ tree
Gives (Err fault.Memory) tree = Unit {0}
Gives (Err found) tree = ⊥

-- two causes are the same one, want of memory apart
abbrev pub SameCause : IdlFault → IdlFault → Type 0
SameCause fault.Memory other = Unit {0}
SameCause one fault.Memory = Unit {0}
SameCause one other = one ≡ other

-- the answer for a text that is refused for that cause
abbrev pub Tells : {A : Type 0} → Result A IdlFault → IdlFault → Type 0
Tells (Err told) found = SameCause told found
Tells (Ok value) fault.Memory = Unit {0}
Tells (Ok value) found = ⊥
