-- what a step of the reader answers, against what the item does
use Rattle.std.specs.Prelude.{◌≡◌, ◌⊎◌, ℕ, ◌≤◌, true, List, [], ◌∷◌, ◌++◌, map, Result, Ok, Err, Option, Some, None, IsUtf8}
use Rattle.idl_token.specs.Lex.{Bytes, Lexemes, lexeme}
use Rattle.idl_token.specs.declared.tokens.Item.{Item}
use Rattle.idl_tree.specs.declared.trees.Interface.{Interface}
use Rattle.idl_token.specs.declared.tokens.TokenFault.{TokenFault}
use Rattle.idl_token.specs.declared.tokens.TokenFault.TheVariants as token
use Rattle.idl_tree.specs.Form.{Deep}
use Rattle.idl_tree.specs.Faults.{Good, first_fault}
use Rattle.idl_tree.specs.declared.faults.NameFault.{NameFault}
use Rattle.idl_tree.specs.declared.faults.NameFault.TheVariants as name
use Rattle.idl_rules.specs.Spells.{Spells}
use Rattle.idl_grammar.specs.Refuses.{Refuses}
use Rattle.idl_rules.specs.Reading.{Next, Going, Stray, Beyond, Reading, Read, Strayed, TooFar, run, whole, note_good}
use Rattle.idl_grammar.specs.declared.reader.Progress.{Progress}
use Rattle.idl_grammar.specs.declared.faults.IdlFault.{IdlFault}
use Rattle.idl_grammar.specs.declared.faults.IdlFault.TheVariants as fault
use Rattle.idl_rules.specs.declared.states.State.{State}
use Rattle.idl_rules.specs.declared.states.State.TheVariants.{Start}
use Rattle.idl_grammar.specs.declared.faults.Stop.{Stop}
use Rattle.idl_grammar.specs.declared.faults.Stop.TheVariants as stop

-- the state that the item leads to, or why it is not taken; want of memory tells nothing
abbrev pub Follows : Result State Stop → Next → Type 0
Follows (Ok state) next = next ≡ Going state
Follows (Err stop.Stray) next = next ≡ Stray
Follows (Err stop.Beyond) next = next ≡ Beyond
Follows (Err stop.Memory) next = Unit {0}

-- what was found, or that there is nothing
abbrev pub Finds : {A : Type 0} → Result A Stop → Option A → Type 0
Finds (Ok value) found = found ≡ Some value
Finds (Err stop.Stray) found = found ≡ None
Finds (Err stop.Beyond) found = ⊥
Finds (Err stop.Memory) found = Unit {0}

-- the reading of an item and those behind it
abbrev pub Continues : Result Progress Stop → Reading → Lexemes → Type 0
Continues (Ok next) reading items = reading ≡ run 64 next.state next.waiting items
Continues (Err stop.Stray) reading items = reading ≡ Strayed
Continues (Err stop.Beyond) reading items = reading ≡ TooFar
Continues (Err stop.Memory) reading items = Unit {0}

-- the items in front were taken
abbrev pub Takes : (Lexemes → Reading) → Lexemes → Type 0
Takes read front = (state : State) × (waiting : List Bytes) × (read front ≡ Read state waiting)

-- the reading stops with the item at that place
pub record StopsAt (read : Lexemes → Reading) (reading : Reading) (items : List Item) (at : ℕ) : Type 0 where
  pub front : List Item
  pub item : Item
  pub rest : List Item
  pub whole : items ≡ front ++ item ∷ rest
  pub place : item.at ≡ at
  pub taken : Takes read (map lexeme front)
  pub stopped : read (map lexeme front ++ lexeme item ∷ []) ≡ reading

-- all items were taken, and something is missing
pub record EndsIn (items : Lexemes) : Type 0 where
  pub taken : Takes (run 64 Start []) items
  pub missing : (tree : Interface) → run 64 Start [] items ≡ whole tree → ⊥

-- what the end of the items leaves
abbrev pub Ends : Result Interface IdlFault → State → List Bytes → ℕ → Type 0
Ends (Ok tree) state waiting end = Read state waiting ≡ whole tree
Ends (Err (fault.Syntax at)) state waiting end = (at ≡ end) × ((tree : Interface) → Read state waiting ≡ whole tree → ⊥)
Ends (Err found) state waiting end = ⊥

-- what the reader of a tree answers, against the reading of its items, where the text ends at `end`
abbrev pub Reads : Result Interface IdlFault → List Item → ℕ → Type 0
Reads (Ok tree) items end = run 64 Start [] (map lexeme items) ≡ whole tree
Reads (Err (fault.Token token)) items end = ⊥
Reads (Err (fault.Syntax at)) items end = StopsAt (run 64 Start []) Strayed items at ⊎ ((at ≡ end) × EndsIn (map lexeme items))
Reads (Err (fault.TooDeep at)) items end = StopsAt (run 64 Start []) TooFar items at
Reads (Err (fault.Name name)) items end = ⊥
Reads (Err fault.Memory) items end = Unit {0}

-- the item is UTF-8, and so is its text where it is a note
abbrev pub IsReadable : Item → Type 0
IsReadable item = IsUtf8 item.text.now × (note_good (lexeme item) ≡ true)

-- a tree that the text spells, within the limit, or the cause of a refusal
abbrev pub TreeOf : Result Interface IdlFault → Bytes → Type 0
TreeOf (Ok tree) text = Spells tree text × (Deep tree ≤ 64)
TreeOf (Err found) text = Refuses found text

-- want of memory is told as itself
abbrev pub of_token : TokenFault → IdlFault
of_token token.Memory = fault.Memory
of_token found = fault.Token found

abbrev pub of_name : NameFault → IdlFault
of_name name.Memory = fault.Memory
of_name found = fault.Name found

-- what the check of a tree's names answers
abbrev pub ChecksNames : NameFault → Interface → Type 0
ChecksNames name.Memory tree = ⊥
ChecksNames found tree = first_fault tree ≡ Some found

abbrev pub Checks : Result Interface IdlFault → Interface → Type 0
Checks (Ok checked) tree = (checked ≡ tree) × Good tree
Checks (Err (fault.Name found)) tree = ChecksNames found tree
Checks (Err fault.Memory) tree = Unit {0}
Checks (Err found) tree = ⊥
