-- a reading has one answer
use Rattle.std.proofs.Common.{◌≡◌, ◌≢◌, ℕ, List, [], ◌∷◌, ◌++◌, length, Option, Some, None, Result, Ok, Err, refl, sym, ap, subst, ◌∙◌, inl, inr}
use Rattle.serde_json.specs.Data.{Data}
use Rattle.idl_tree.specs.Floats.{TypeReaches}
use Rattle.idl_tree.specs.Names.{Bytes}
use Rattle.idl_tree.specs.declared.trees.Interface.{Interface}
use Rattle.idl_tree.specs.declared.trees.TypeRef.{TypeRef}
use Rattle.idl_grammar.specs.Refuses.{Gives, SameCause}
use Rattle.idl_grammar.specs.RefusesType.{GivesType}
use Rattle.idl_grammar.specs.declared.faults.IdlFault.{IdlFault}
use Rattle.idl_grammar.specs.declared.faults.IdlFault.TheVariants as fault
use Rattle.idl_grammar.proofs.Answering.{complete}
use Rattle.idl_grammar.proofs.OneCause.{tells}
use Rattle.idl_grammar.proofs.TypeAnswering.{type_complete}
use Rattle.idl_grammar.proofs.OneTypeCause.{type_tells}
use Rattle.typed_value.specs.Reads as value
use Rattle.typed_value.specs.declared.vals.Val.{Val}
use Rattle.sheet_draft.specs.declared.drafts.RegisterDraft.{RegisterDraft}
use Rattle.sheet_draft.specs.declared.places.Place.TheVariants as place
use Rattle.sheet_rules.specs.declared.forms.Register.{Register}
use Rattle.sheet_form.specs.Answers.{Reading, done, refused, given, unless, barred, IsOne, ◌>>=◌}
use Rattle.sheet_form.specs.Interfaces.{definition, name_fault, named_apart, interface_behind, more_by, interfaces_from, interface_placed}
use Rattle.sheet_form.specs.Registers.{type_text, without_float, type_of, levels_fault, within_levels, first_value, type_and_value, with_parts, register_in, register_at, registers_from}
use Rattle.sheet_form.specs.declared.faults.SheetFault.{SheetFault}
use Rattle.sheet_form.specs.declared.faults.SheetFault.TheVariants.{Idl, Scope, RegisterText, Float, Initial}

module _ {A : Type 0} where
  ok_same : (x y : A) → ◌≡◌ {A = Result A SheetFault} (Ok x) (Ok y) → x ≡ y
  ok_same x y h = cc

  ok_err : (x : A) (why : SheetFault) → ◌≡◌ {A = Result A SheetFault} (Ok x) (Err why) → ⊥
  ok_err x why h = absurd (cc)

  pub one_done : (x : A) → IsOne (done x)
  one_done x (Ok y) (Ok z) h k = ap Ok (h ∙ sym k)
  one_done x (Ok y) (Err why) h k = absurd k
  one_done x (Err why) other h k = absurd h

  pub one_refused : (why : SheetFault) → IsOne {A = A} (refused why)
  one_refused why (Ok y) other h k = absurd h
  one_refused why (Err told) (Ok y) h k = absurd k
  one_refused why (Err told) (Err said) h k = ap Err (h ∙ sym k)

  one_given : (why : SheetFault) (found : Option A) → IsOne (given why found)
  one_given why None = one_refused why
  one_given why (Some x) = one_done x

  one_unless : (fault : Option SheetFault) (x : A) → IsOne (unless fault x)
  one_unless None x = one_done x
  one_unless (Some why) x = one_refused why

  one_barred : (condition : Type 0) (why : SheetFault) (x : A) → IsOne (barred condition why x)
  one_barred condition why x (Ok y) (Ok z) h k = ap Ok (h.1 ∙ sym k.1)
  one_barred condition why x (Ok y) (Err told) h k = absurd (h.0 k.0)
  one_barred condition why x (Err told) (Ok y) h k = absurd (k.0 h.0)
  one_barred condition why x (Err told) (Err said) h k = ap Err (h.1 ∙ sym k.1)

module _ {A B : Type 0} (first : Reading A) (behind : A → Reading B) (one_first : IsOne first) (one_behind : (x : A) → IsOne (behind x)) where
  abbrev Behind : Result B SheetFault → Type 0
  Behind result = (x : A) × first (Ok x) × behind x result

  both_behind : (one other : Result B SheetFault) → Behind one → Behind other → one ≡ other
  both_behind one other h k =
      let same = ok_same k.0 h.0 (one_first (Ok k.0) (Ok h.0) k.1 h.1) in
      one_behind h.0 one other h.2 (subst (λ (x : A). behind x other) same k.2)

  never_both : (why : SheetFault) (result : Result B SheetFault) → first (Err why) → Behind result → ⊥
  never_both why result h k = ok_err k.0 why (one_first (Ok k.0) (Err why) k.1 h)

  fault_same : (one other : SheetFault) → first (Err one) → first (Err other) → ◌≡◌ {A = Result B SheetFault} (Err one) (Err other)
  fault_same one other h k = let same : ◌≡◌ {A = Result A SheetFault} (Err one) (Err other) = one_first (Err one) (Err other) h k in cc

  pub one_then : IsOne (first >>= behind)
  one_then (Ok y) (Ok z) h k = both_behind (Ok y) (Ok z) h k
  one_then (Ok y) (Err why) h (inl k) = absurd (never_both why (Ok y) k h)
  one_then (Ok y) (Err why) h (inr k) = both_behind (Ok y) (Err why) h k
  one_then (Err why) (Ok y) (inl h) k = absurd (never_both why (Ok y) h k)
  one_then (Err why) (Ok y) (inr h) k = both_behind (Err why) (Ok y) h k
  one_then (Err why) (Err said) (inl h) (inl k) = fault_same why said h k
  one_then (Err why) (Err said) (inl h) (inr k) = absurd (never_both why (Err said) h k)
  one_then (Err why) (Err said) (inr h) (inl k) = absurd (never_both said (Err why) k h)
  one_then (Err why) (Err said) (inr h) (inr k) = both_behind (Err why) (Err said) h k

-- a refusal for another cause than want of memory
same_cause : (one other : IdlFault) → one ≢ fault.Memory → other ≢ fault.Memory → SameCause one other → one ≡ other
same_cause (fault.Token x) (fault.Token y) told said h = h
same_cause (fault.Token x) (fault.Syntax y) told said h = h
same_cause (fault.Token x) (fault.TooDeep y) told said h = h
same_cause (fault.Token x) (fault.Name y) told said h = h
same_cause (fault.Token x) fault.Memory told said h = absurd (said refl)
same_cause (fault.Syntax x) (fault.Token y) told said h = h
same_cause (fault.Syntax x) (fault.Syntax y) told said h = h
same_cause (fault.Syntax x) (fault.TooDeep y) told said h = h
same_cause (fault.Syntax x) (fault.Name y) told said h = h
same_cause (fault.Syntax x) fault.Memory told said h = absurd (said refl)
same_cause (fault.TooDeep x) (fault.Token y) told said h = h
same_cause (fault.TooDeep x) (fault.Syntax y) told said h = h
same_cause (fault.TooDeep x) (fault.TooDeep y) told said h = h
same_cause (fault.TooDeep x) (fault.Name y) told said h = h
same_cause (fault.TooDeep x) fault.Memory told said h = absurd (said refl)
same_cause (fault.Name x) (fault.Token y) told said h = h
same_cause (fault.Name x) (fault.Syntax y) told said h = h
same_cause (fault.Name x) (fault.TooDeep y) told said h = h
same_cause (fault.Name x) (fault.Name y) told said h = h
same_cause (fault.Name x) fault.Memory told said h = absurd (said refl)
same_cause fault.Memory other told said h = absurd (told refl)

never_given : (cause : IdlFault) (interface : Interface) → cause ≢ fault.Memory → Gives (Err cause) interface → ⊥
never_given (fault.Token x) interface told h = h
never_given (fault.Syntax x) interface told h = h
never_given (fault.TooDeep x) interface told h = h
never_given (fault.Name x) interface told h = h
never_given fault.Memory interface told h = told refl

never_typed : (cause : IdlFault) (of : TypeRef) → cause ≢ fault.Memory → GivesType (Err cause) of → ⊥
never_typed (fault.Token x) of told h = h
never_typed (fault.Syntax x) of told h = h
never_typed (fault.TooDeep x) of told h = h
never_typed (fault.Name x) of told h = h
never_typed fault.Memory of told h = told refl

one_definition : (k : ℕ) (text : Bytes) → IsOne (definition k text)
one_definition k text (Ok one) (Ok other) h r = ap Ok (complete text (Ok one) h other r)
one_definition k text (Ok one) (Err why) h (cause, is, r, told) = absurd (never_given cause one told (complete text (Err cause) r one h))
one_definition k text (Err why) (Ok one) (cause, is, r, told) h = absurd (never_given cause one told (complete text (Err cause) r one h))
one_definition k text (Err why) (Err said) (cause, is, r, told) (other, was, s, saying) =
    ap Err (is ∙ ap (Idl k) (same_cause cause other told saying (tells text (Err cause) r other s)) ∙ sym was)

one_behind : (before : List Interface) (text : Bytes) → IsOne (interface_behind before text)
one_behind before text = one_then (definition (length before) text) (named_apart before (length before))
    (one_definition (length before) text) (λ interface. one_unless (name_fault before (length before) interface.name) interface)

one_more : (before : List Interface) (text : Bytes) → IsOne (more_by before text)
one_more before text = one_then (interface_behind before text) (λ interface. done (before ++ interface ∷ []))
    (one_behind before text) (λ interface. one_done (before ++ interface ∷ []))

pub one_interfaces : (before : List Interface) (texts : List Bytes) → IsOne (interfaces_from before texts)
one_interfaces before [] = one_done before
one_interfaces before (text ∷ texts) = one_then (more_by before text) (λ more. interfaces_from more texts)
    (one_more before text) (λ more. one_interfaces more texts)

one_text : (interface : Interface) (k : ℕ) (text : Bytes) → IsOne (type_text interface k text)
one_text interface k text (Ok one) (Ok other) h r = ap Ok (type_complete text interface (Ok one) h other r)
one_text interface k text (Ok one) (Err why) h (cause, is, r, told) = absurd (never_typed cause one told (type_complete text interface (Err cause) r one h))
one_text interface k text (Err why) (Ok one) (cause, is, r, told) h = absurd (never_typed cause one told (type_complete text interface (Err cause) r one h))
one_text interface k text (Err why) (Err said) (cause, is, r, told) (other, was, s, saying) =
    ap Err (is ∙ ap (RegisterText k) (same_cause cause other told saying (type_tells text interface (Err cause) r other s)) ∙ sym was)

one_type : (interface : Interface) (k : ℕ) (text : Bytes) → IsOne (type_of interface k text)
one_type interface k text = one_then (type_text interface k text) (without_float interface k) (one_text interface k text)
    (λ of. one_barred (TypeReaches interface of) (Float (place.Register k)) of)

one_within : (k : ℕ) (value : Val) → IsOne (within_levels k value)
one_within k value = one_unless (levels_fault k value) value

one_value : (interface : Interface) (k : ℕ) (of : TypeRef) (json : Data) → IsOne (first_value interface k of json)
one_value interface k of json = one_then (given (Initial k) (value.Reads interface of json)) (within_levels k)
    (one_given (Initial k) (value.Reads interface of json)) (one_within k)

one_both : (interface : Interface) (k : ℕ) (draft : RegisterDraft) → IsOne (type_and_value interface k draft)
one_both interface k draft = one_then (type_of interface k draft.of) (λ of. first_value interface k of draft.initial >>= λ x. done (of, x))
    (one_type interface k draft.of)
    (λ of. one_then (first_value interface k of draft.initial) (λ x. done (of, x)) (one_value interface k of draft.initial) (λ x. one_done (of, x)))

one_in : (scope : ℕ) (interface : Interface) (k : ℕ) (draft : RegisterDraft) → IsOne (register_in scope interface k draft)
one_in scope interface k draft = one_then (type_and_value interface k draft) (λ parts. done (with_parts draft.name scope parts))
    (one_both interface k draft) (λ parts. one_done (with_parts draft.name scope parts))

one_register : (interfaces : List Interface) (k : ℕ) (draft : RegisterDraft) → IsOne (register_at interfaces k draft)
one_register interfaces k draft = one_then (given (Scope k) (interface_placed interfaces draft.scope)) (λ found. register_in found.0 found.1 k draft)
    (one_given (Scope k) (interface_placed interfaces draft.scope)) (λ found. one_in found.0 found.1 k draft)

pub one_registers : (interfaces : List Interface) (before : List Register) (drafts : List RegisterDraft) → IsOne (registers_from interfaces before drafts)
one_registers interfaces before [] = one_done before
one_registers interfaces before (draft ∷ drafts) = one_then (register_at interfaces (length before) draft)
    (λ register. registers_from interfaces (before ++ register ∷ []) drafts)
    (one_register interfaces (length before) draft) (λ register. one_registers interfaces (before ++ register ∷ []) drafts)
