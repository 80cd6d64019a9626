-- why a text is refused as one type, and what is read of one that is accepted
use Rattle.std.specs.Prelude.{◌≡◌, ◌<◌, ◌≤◌, Result, Ok, Err, Some, IsUtf8}
use Rattle.std.specs.Str.Lossy.{utf8_valid_len}
use Rattle.idl_token.specs.Lex.{Bytes, Lexemes, Lex, BadByteAt}
use Rattle.idl_token.specs.declared.tokens.TokenFault.TheVariants as token
use Rattle.idl_tree.specs.Form.{type_depth}
use Rattle.idl_tree.specs.Faults.{type_fault, defines}
use Rattle.idl_tree.specs.declared.trees.Interface.{Interface}
use Rattle.idl_tree.specs.declared.trees.TypeRef.{TypeRef}
use Rattle.idl_tree.specs.declared.faults.NameFault.{NameFault}
use Rattle.idl_tree.specs.declared.faults.NameFault.TheVariants as name
use Rattle.idl_rules.specs.Grammar.{Front, a_type}
use Rattle.idl_types.specs.Types.{SpellsType, AcceptsType}
use Rattle.idl_grammar.specs.Refuses.{HasLex, StopsIn, DeepAt}
use Rattle.idl_grammar.specs.declared.faults.IdlFault.{IdlFault}
use Rattle.idl_grammar.specs.declared.faults.IdlFault.TheVariants as fault

-- the text spells a type with at most 64 brackets open, and that is the first fault of its names
abbrev pub MisnamesType : NameFault → Bytes → Interface → Type 0
MisnamesType found text scope =
    (of : TypeRef) × SpellsType of text × (type_depth of ≤ 64) × (type_fault (defines scope) of ≡ Some found)

abbrev pub RefusesTypeNames : NameFault → Bytes → Interface → Type 0
RefusesTypeNames name.Memory text scope = ⊥
RefusesTypeNames found text scope = MisnamesType found text scope

-- the cause of a refusal; the items begin a type with no note among them, since a note is in none
abbrev pub RefusesType : IdlFault → Bytes → Interface → Type 0
RefusesType (fault.Token (token.NotUtf8 at)) text scope = (IsUtf8 text → ⊥) × (at ≡ utf8_valid_len text)
RefusesType (fault.Token (token.BadByte at)) text scope = IsUtf8 text × BadByteAt at text × ((items : Lexemes) → Lex items text → ⊥)
RefusesType (fault.Token token.Memory) text scope = ⊥
RefusesType (fault.Syntax at) text scope = HasLex text × ((of : TypeRef) → SpellsType of text → ⊥) × StopsIn (Front a_type) text at
RefusesType (fault.TooDeep at) text scope = HasLex text × ((of : TypeRef) → SpellsType of text → 64 < type_depth of) × DeepAt (Front a_type) text at
RefusesType (fault.Name found) text scope = RefusesTypeNames found text scope
RefusesType fault.Memory text scope = Unit {0}

-- the type that is accepted, or the cause of a refusal
abbrev pub AnswersType : Result TypeRef IdlFault → Bytes → Interface → Type 0
AnswersType (Ok of) text scope = AcceptsType text scope of
AnswersType (Err found) text scope = RefusesType found text scope

-- the answer for a text that is accepted as the type
abbrev pub GivesType : Result TypeRef IdlFault → TypeRef → Type 0
GivesType (Ok given) of = given ≡ of
GivesType (Err fault.Memory) of = Unit {0}
GivesType (Err found) of = ⊥
