-- what the steps of the reader of one type answer
use Rattle.std.specs.Prelude.{◌≡◌, ◌⊎◌, ℕ, ◌≤◌, List, [], ◌∷◌, map, Result, Ok, Err, Option, Some, None}
use Rattle.idl_token.specs.Lex.{Bytes, Lexemes, lexeme}
use Rattle.idl_token.specs.declared.tokens.Item.{Item}
use Rattle.idl_tree.specs.Form.{type_depth}
use Rattle.idl_tree.specs.Faults.{Found}
use Rattle.idl_tree.specs.declared.trees.Field.{Field}
use Rattle.idl_tree.specs.declared.trees.Interface.{Interface}
use Rattle.idl_tree.specs.declared.trees.TypeRef.{TypeRef}
use Rattle.idl_tree.specs.declared.faults.NameFault.{NameFault}
use Rattle.idl_tree.specs.declared.faults.NameFault.TheVariants as name
use Rattle.idl_rules.specs.Reading.{Read, Strayed, TooFar}
use Rattle.idl_rules.specs.declared.states.State.{State}
use Rattle.idl_types.specs.Types.{SpellsType}
use Rattle.idl_types.specs.TypeReading.{at_type, type_read, type_run}
use Rattle.idl_grammar.specs.Follows.{StopsAt}
use Rattle.idl_grammar.specs.RefusesType.{RefusesType}
use Rattle.idl_grammar.specs.declared.faults.IdlFault.{IdlFault}
use Rattle.idl_grammar.specs.declared.faults.IdlFault.TheVariants as fault

-- the type of the only field
abbrev pub only_type : List Field → Option TypeRef
only_type (field ∷ []) = Some field.of
only_type fields = None

-- all items were taken, and they leave that type, or none
pub record LeavesType (items : Lexemes) (found : Option TypeRef) : Type 0 where
  pub state : State
  pub taken : type_run 64 at_type items ≡ Read state []
  pub left : type_read state ≡ found

-- what the end of the items leaves
abbrev pub EndsType : Result TypeRef IdlFault → State → ℕ → Type 0
EndsType (Ok of) state end = type_read state ≡ Some of
EndsType (Err (fault.Syntax at)) state end = (at ≡ end) × (type_read state ≡ None)
EndsType (Err found) state end = ⊥

-- what the reader of a type answers, against the reading of its items, where the text ends at `end`
abbrev pub ReadsType : Result TypeRef IdlFault → List Item → ℕ → Type 0
ReadsType (Ok of) items end = LeavesType (map lexeme items) (Some of)
ReadsType (Err (fault.Token token)) items end = ⊥
ReadsType (Err (fault.Syntax at)) items end = StopsAt (type_run 64 at_type) Strayed items at ⊎ ((at ≡ end) × LeavesType (map lexeme items) None)
ReadsType (Err (fault.TooDeep at)) items end = StopsAt (type_run 64 at_type) TooFar items at
ReadsType (Err (fault.Name name)) items end = ⊥
ReadsType (Err fault.Memory) items end = Unit {0}

-- a type that the text spells, within the limit, or the cause of a refusal, whatever the scope
abbrev pub TypeOf : Result TypeRef IdlFault → Bytes → Type 0
TypeOf (Ok of) text = SpellsType of text × (type_depth of ≤ 64)
TypeOf (Err found) text = (scope : Interface) → RefusesType found text scope

-- what the check of a type's names answers
abbrev pub TellsName : NameFault → Found → Type 0
TellsName name.Memory first = ⊥
TellsName found first = first ≡ Some found

abbrev pub ChecksType : Result TypeRef IdlFault → TypeRef → Found → Type 0
ChecksType (Ok checked) of first = (checked ≡ of) × (first ≡ None)
ChecksType (Err (fault.Name found)) of first = TellsName found first
ChecksType (Err fault.Memory) of first = Unit {0}
ChecksType (Err found) of first = ⊥
