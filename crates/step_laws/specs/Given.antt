-- Values where a rule's types say that there are some.
use Rattle.std.specs.Prelude.{◌≡◌, true, List, Option, Some}
use Rattle.idl_tree.specs.declared.trees.Interface.{Interface}
use Rattle.typed_value.specs.declared.vals.Val.{Val}
use Rattle.sheet_rules.specs.Types.{Typ, body_typ, is_of_typ}
use Rattle.sheet_rules.specs.Settings.{Setting}
use Rattle.rule_values.specs.Meanings.{Env}
use Rattle.step_laws.specs.Ready.{are_of_types}

-- there is one, of which P holds
pub record ThereIs {A : Type 0} (o : Option A) (P : A → Type 0) : Type 0 where
  pub value : A
  pub is : o ≡ Some value
  pub so : P value

-- there is a value of the type
abbrev pub IsGiven : List Interface → Typ → Option Val → Type 0
IsGiven interfaces t o = ThereIs o (λ v. is_of_typ interfaces t v ≡ true)

-- the registers, the parameters, and the item where there is one, have values of their types
pub record InPlace (s : Setting) (e : Env) : Type 0 where
  pub registers : are_of_types s.interfaces s.registers e.registers ≡ true
  pub parameters : is_of_typ s.interfaces (body_typ s.scope s.input) e.parameters ≡ true
  pub item : (t : Typ) → s.item ≡ Some t → IsGiven s.interfaces t e.item
