-- a reference leads to a value where it leads to a type
use Rattle.std.proofs.Common.{◌≡◌, ℕ, zero, suc, true, List, [], ◌∷◌, Some, refl, subst}
use Rattle.std.specs.Prelude.{slice_get}
use Rattle.std.proofs.lemmas.Bool.{false≢true}
use Rattle.idl_tree.specs.declared.trees.Interface.{Interface}
use Rattle.typed_value.specs.declared.vals.Val.{Val}
use Rattle.typed_value.proofs.Distinct.{first_true, second_true}
use Rattle.rule_values.specs.Parts.{at_path}
use Rattle.rule_values.specs.Meanings.{Env, found}
use Rattle.sheet_rules.specs.Types.{Typ, type_in, body_typ, is_of_typ}
use Rattle.sheet_rules.specs.Settings.{Setting, path_typ, register_typ, ref_typ}
use Rattle.sheet_rules.specs.declared.forms.Register.{Register}
use Rattle.sheet_rules.specs.declared.forms.Ref.{Ref}
use Rattle.sheet_rules.specs.declared.forms.Ref.TheVariants as ref
use Rattle.step_laws.specs.Ready.{are_of_types}
use Rattle.step_laws.specs.Given.{IsGiven, InPlace}
use Rattle.step_laws.proofs.Parted.{no_some, some_same, then_opened}
use Rattle.step_laws.proofs.StructValues.{given_then, path_given}

abbrev pub typ_in : Register → Typ
typ_in register = type_in register.scope register.of

-- a register at a place has a value of its type
pub register_given : (interfaces : List Interface) (registers : List Register) (values : List Val) (place : ℕ) (t : Typ)
    → are_of_types interfaces registers values ≡ true → register_typ registers place ≡ Some t → IsGiven interfaces t (slice_get values place)
register_given interfaces [] values place t of is = absurd (no_some t is)
register_given interfaces (register ∷ registers) [] place t of is = absurd (false≢true of)
register_given interfaces (register ∷ registers) (v ∷ values) zero t of is = record {
  value = v;
  is = refl;
  so = subst (λ (x : Typ). is_of_typ interfaces x v ≡ true) (some_same (typ_in register) t is)
      (first_true (is_of_typ interfaces (typ_in register) v) _ of);
}
register_given interfaces (register ∷ registers) (v ∷ values) (suc place) t of is =
    register_given interfaces registers values place t (second_true (is_of_typ interfaces (typ_in register) v) _ of) is

module _ (s : Setting) (e : Env) (at : InPlace s e) where
  pub found_given : (r : Ref) (t : Typ) → ref_typ s r ≡ Some t → IsGiven s.interfaces t (found e r)
  found_given (ref.Param []) t is = absurd (no_some t is)
  found_given (ref.Param (place ∷ path)) t is = path_given s.interfaces (place ∷ path) (body_typ s.scope s.input) t e.parameters is at.parameters
  found_given (ref.Register place path) t is =
      let of = then_opened (path_typ s.interfaces path) (register_typ s.registers place) t is in
      let v = register_given s.interfaces s.registers e.registers place of.value at.registers of.is in
      given_then s.interfaces t (at_path path) (slice_get e.registers place) v.value v.is (path_given s.interfaces path of.value t v.value of.so v.so)
  found_given (ref.Item path) t is =
      let of = then_opened (path_typ s.interfaces path) s.item t is in
      let v = at.item of.value of.is in
      given_then s.interfaces t (at_path path) e.item v.value v.is (path_given s.interfaces path of.value t v.value of.so v.so)
