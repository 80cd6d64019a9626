-- The registers of a sheet: each has a type of an interface of the sheet, which does not reach `float`,
-- and a first value of that type.
use Rattle.std.specs.Prelude.{◌≡◌, ◌≢◌, ℕ, nat_lt, List, [], ◌∷◌, ◌++◌, length, if◌then◌else◌, Option, Some, None, Ok, Err}
use Rattle.serde_json.specs.Data.{Data}
use Rattle.idl_tree.specs.Floats.{TypeReaches}
use Rattle.idl_tree.specs.Names.{Bytes}
use Rattle.idl_tree.specs.declared.trees.Interface.{Interface}
use Rattle.idl_tree.specs.declared.trees.TypeRef.{TypeRef}
use Rattle.idl_types.specs.Types.{AcceptsType}
use Rattle.idl_grammar.specs.RefusesType.{RefusesType}
use Rattle.idl_grammar.specs.declared.faults.IdlFault.{IdlFault}
use Rattle.idl_grammar.specs.declared.faults.IdlFault.TheVariants as idl
use Rattle.typed_value.specs.Reads.{Reads}
use Rattle.typed_value.specs.Sizes.{levels_of}
use Rattle.typed_value.specs.declared.vals.Val.{Val}
use Rattle.sheet_draft.specs.declared.drafts.RegisterDraft.{RegisterDraft}
use Rattle.sheet_draft.specs.declared.places.Place.TheVariants as place
use Rattle.sheet_rules.specs.declared.forms.Register.{Register}
use Rattle.sheet_form.specs.Answers.{Reading, done, given, unless, barred, ◌>>=◌}
use Rattle.sheet_form.specs.Interfaces.{interface_placed}
use Rattle.sheet_form.specs.declared.faults.SheetFault.{SheetFault}
use Rattle.sheet_form.specs.declared.faults.SheetFault.TheVariants.{Scope, RegisterText, Float, Initial}

-- the type that the text spells, its names those of the interface, or why it spells none
abbrev pub type_text : Interface → ℕ → Bytes → Reading TypeRef
type_text interface k text (Ok of) = AcceptsType text interface of
type_text interface k text (Err why) = (cause : IdlFault) × (why ≡ RegisterText k cause) × RefusesType cause text interface × (cause ≢ idl.Memory)

abbrev pub without_float : Interface → ℕ → TypeRef → Reading TypeRef
without_float interface k of = barred (TypeReaches interface of) (Float (place.Register k)) of

abbrev pub type_of : Interface → ℕ → Bytes → Reading TypeRef
type_of interface k text = do
  of ← type_text interface k text
  without_float interface k of

-- a value has at most 120 levels
abbrev pub levels_fault : ℕ → Val → Option SheetFault
levels_fault k value = if nat_lt 120 (levels_of value) then Some (Initial k) else None

abbrev pub within_levels : ℕ → Val → Reading Val
within_levels k value = unless (levels_fault k value) value

-- the value that the JSON reads as
abbrev pub first_value : Interface → ℕ → TypeRef → Data → Reading Val
first_value interface k of json = do
  value ← given (Initial k) (Reads interface of json)
  within_levels k value

abbrev pub type_and_value : Interface → ℕ → RegisterDraft → Reading (TypeRef × Val)
type_and_value interface k draft = do
  of ← type_of interface k draft.of
  value ← first_value interface k of draft.initial
  done (of, value)

abbrev pub with_parts : Bytes → ℕ → TypeRef × Val → Register
with_parts name scope parts = record { name = name; scope = scope; of = parts.0; initial = parts.1 }

-- the register of that place, whose scope is the interface at that place
abbrev pub register_in : ℕ → Interface → ℕ → RegisterDraft → Reading Register
register_in scope interface k draft = do
  parts ← type_and_value interface k draft
  done (with_parts draft.name scope parts)

-- the register of that place
abbrev pub register_at : List Interface → ℕ → RegisterDraft → Reading Register
register_at interfaces k draft = do
  found ← given (Scope k) (interface_placed interfaces draft.scope)
  register_in found.0 found.1 k draft

-- those and the registers that the drafts are formed to
abbrev pub registers_from : List Interface → List Register → List RegisterDraft → Reading (List Register)
registers_from interfaces before [] = done before
registers_from interfaces before (draft ∷ drafts) = do
  register ← register_at interfaces (length before) draft
  registers_from interfaces (before ++ register ∷ []) drafts

abbrev pub registers_of : List Interface → List RegisterDraft → Reading (List Register)
registers_of interfaces drafts = registers_from interfaces [] drafts
