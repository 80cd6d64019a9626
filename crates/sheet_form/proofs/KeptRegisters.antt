-- the registers that are read begin with values of their types
use Rattle.std.proofs.Common.{◌≡◌, ℕ, Bool, true, false, ◌&&◌, if◌then◌else◌, nat_lt, List, [], ◌∷◌, ◌++◌, length, Option, Some, None, option_map, option_and_then, slice_get, Ok, refl, sym, ap, ◌∙◌, subst}
use Rattle.std.proofs.lemmas.Bool.{ltb-false, le-leb}
use Rattle.std.proofs.lemmas.List.{map-append}
use Rattle.std.proofs.lemmas.List.Folds.{list_all-append}
use Rattle.std.specs.List.{list_all, AllByRecursion}
use Rattle.serde_json.specs.Data.{Data}
use Rattle.idl_tree.specs.Floats.{TypeReaches}
use Rattle.idl_tree.specs.Names.{Bytes}
use Rattle.idl_tree.specs.declared.trees.Interface.{Interface}
use Rattle.idl_tree.specs.declared.trees.TypeRef.{TypeRef}
use Rattle.typed_value.specs.OfType.{is_of_type}
use Rattle.typed_value.specs.Reads as value
use Rattle.typed_value.specs.Sizes.{levels_of}
use Rattle.typed_value.specs.declared.vals.Val.{Val}
use Rattle.typed_value.proofs.ReadsFit.{reads_fit}
use Rattle.sheet_draft.specs.declared.drafts.RegisterDraft.{RegisterDraft}
use Rattle.sheet_rules.specs.declared.forms.Register.{Register}
use Rattle.rule_form.specs.Rules.{interface_place}
use Rattle.sheet_form.specs.Answers.{given, unless}
use Rattle.sheet_form.specs.Interfaces.{interface_placed}
use Rattle.sheet_form.specs.Kept.{initials_of, begins_typed, is_shallow, IsFloatless, AreRegisters}
use Rattle.sheet_form.specs.Registers.{type_of, first_value, type_and_value, with_parts, register_at, registers_from}
use Rattle.sheet_form.specs.Sheets.{Tables, tables_of}
use Rattle.sheet_form.specs.declared.faults.SheetFault.{SheetFault}
use Rattle.sheet_form.specs.declared.faults.SheetFault.TheVariants.{Scope, Initial}

some_is : {A : Type 0} {x y : A} → ◌≡◌ {A = Option A} (Some x) (Some y) → x ≡ y
some_is h = (cc)

none_some : {A : Type 0} {x : A} → ◌≡◌ {A = Option A} None (Some x) → ⊥
none_some h = absurd (cc)

given_is : {A : Type 0} (why : SheetFault) (found : Option A) (x : A) → given why found (Ok x) → found ≡ Some x
given_is why None x h = absurd h
given_is why (Some y) x h = ap Some (sym h)

not_deep : (why : SheetFault) (deep : Bool) (x y : Val) → unless (if deep then Some why else None) x (Ok y) → (y ≡ x) × (deep ≡ false)
not_deep why true x y h = absurd h
not_deep why false x y h = (h, refl)

shallow : (v : Val) → nat_lt 120 (levels_of v) ≡ false → is_shallow v ≡ true
shallow v h = le-leb (levels_of v) 120 (ltb-false 120 (levels_of v) h)

-- the interface at the place
placed_at : (place : ℕ) (here : Option Interface) (found : ℕ × Interface)
    → option_map (λ (interface : Interface). (place, interface)) here ≡ Some found → (place ≡ found.0) × (here ≡ Some found.1)
placed_at place None found h = absurd (none_some h)
placed_at place (Some interface) found h =
    let same = some_is h in (ap (λ (pair : ℕ × Interface). pair.0) same, ap (λ (pair : ℕ × Interface). Some pair.1) same)

stands_there : (interfaces : List Interface) (place : Option ℕ) (found : ℕ × Interface)
    → option_and_then (λ place. option_map (λ (interface : Interface). (place, interface)) (slice_get interfaces place)) place ≡ Some found
    → slice_get interfaces found.0 ≡ Some found.1
stands_there interfaces None found h = absurd (none_some h)
stands_there interfaces (Some place) found h =
    let both = placed_at place (slice_get interfaces place) found h in ap (slice_get interfaces) (sym both.0) ∙ both.1

-- what is so of a type and a value of a register
record IsBegun (interface : Interface) (of : TypeRef) (v : Val) : Type 0 where
  pub typed : is_of_type interface of v ≡ true
  pub within : is_shallow v ≡ true
  pub floatless : TypeReaches interface of → ⊥

value_begun : (interface : Interface) (k : ℕ) (of : TypeRef) (json : Data) (v : Val) → first_value interface k of json (Ok v)
    → (is_of_type interface of v ≡ true) × (is_shallow v ≡ true)
value_begun interface k of json v (read, gives, within) =
    let found = given_is (Initial k) (value.Reads interface of json) read gives in
    let both = not_deep (Initial k) (nat_lt 120 (levels_of read)) read v within in
    (ap (is_of_type interface of) both.0 ∙ reads_fit interface json of.prefixes of.core read found, ap is_shallow both.0 ∙ shallow read both.1)

type_floatless : (interface : Interface) (k : ℕ) (text : Bytes) (of : TypeRef) → type_of interface k text (Ok of) → TypeReaches interface of → ⊥
type_floatless interface k text of (read, spelled, barred) = subst (λ (t : TypeRef). TypeReaches interface t → ⊥) (sym barred.1) barred.0

begun : (interface : Interface) (k : ℕ) (draft : RegisterDraft) (parts : TypeRef × Val) → type_and_value interface k draft (Ok parts)
    → IsBegun interface parts.0 parts.1
begun interface k draft parts (of, typed, (v, valued, same)) =
    let both = value_begun interface k of draft.initial v valued in
    subst (λ (p : TypeRef × Val). IsBegun interface p.0 p.1) (sym same)
    (record { typed = both.0; within = both.1; floatless = type_floatless interface k draft.of of typed })

-- what is so of a register
record IsRegister (interfaces : List Interface) (register : Register) : Type 0 where
  pub typed : begins_typed interfaces register ≡ true
  pub within : is_shallow register.initial ≡ true
  pub floatless : IsFloatless interfaces register

module _ (interfaces : List Interface) where
  of_parts : (name : Bytes) (scope : ℕ) (interface : Interface) (parts : TypeRef × Val) → slice_get interfaces scope ≡ Some interface
      → IsBegun interface parts.0 parts.1 → IsRegister interfaces (with_parts name scope parts)
  of_parts name scope interface parts is h = record {
    typed = rw is h.typed;
    within = h.within;
    floatless = λ other also reaches.
        h.floatless (subst (λ (i : Interface). TypeReaches i parts.0) (some_is (sym also ∙ is)) reaches);
  }

  register_is : (k : ℕ) (draft : RegisterDraft) (register : Register) → register_at interfaces k draft (Ok register) → IsRegister interfaces register
  register_is k draft register (found, placed, (parts, both, same)) =
      let here = stands_there interfaces (interface_place interfaces draft.scope) found (given_is (Scope k) (interface_placed interfaces draft.scope) found placed) in
      subst (IsRegister interfaces) (sym same) (of_parts draft.name found.0 found.1 parts here (begun found.1 k draft parts both))

  all_and : (P : Register → Type 0) (xs : List Register) (x : Register) → AllByRecursion P xs → P x → AllByRecursion P (xs ++ x ∷ [])
  all_and P [] x h k = (k, tt)
  all_and P (y ∷ ys) x h k = (h.0, all_and P ys x h.1 k)

  one_more : (registers : List Register) (register : Register) → AreRegisters interfaces registers → IsRegister interfaces register
      → AreRegisters interfaces (registers ++ register ∷ [])
  one_more registers register h k = record {
    typed = list_all-append (begins_typed interfaces) registers (register ∷ []) ∙ (λ j. h.typed j && (k.typed j && true));
    within = ap (list_all is_shallow) (map-append (λ (r : Register). r.initial) registers (register ∷ []))
        ∙ list_all-append is_shallow (initials_of registers) (register.initial ∷ []) ∙ (λ j. h.within j && (k.within j && true));
    floatless = all_and (IsFloatless interfaces) registers register h.floatless k.floatless;
  }

  kept_from : (before : List Register) (drafts : List RegisterDraft) (registers : List Register) → AreRegisters interfaces before
      → registers_from interfaces before drafts (Ok registers) → AreRegisters interfaces registers
  kept_from before [] registers h is = subst (AreRegisters interfaces) (sym is) h
  kept_from before (draft ∷ drafts) registers h (register, formed, rest) =
      kept_from (before ++ register ∷ []) drafts registers
      (one_more before register h (register_is (length before) draft register formed)) rest

  kept_registers : (drafts : List RegisterDraft) (registers : List Register) → registers_from interfaces [] drafts (Ok registers)
      → AreRegisters interfaces registers
  kept_registers drafts registers is = kept_from [] drafts registers (record { typed = refl; within = refl; floatless = tt }) is

pub kept_tables : (texts : List Bytes) (drafts : List RegisterDraft) (tables : Tables) → tables_of texts drafts (Ok tables) → AreRegisters tables.0 tables.1
kept_tables texts drafts tables (interfaces, read, (registers, formed, same)) =
    subst (λ (both : Tables). AreRegisters both.0 both.1) (sym same) (kept_registers interfaces drafts registers formed)
