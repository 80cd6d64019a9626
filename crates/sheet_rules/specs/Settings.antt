-- What the expressions of a rule are typed by, and the types of references.
use Rattle.std.specs.Prelude.{ℕ, List, [], ◌∷◌, Option, Some, None, option_map, option_and_then, slice_get}
use Rattle.idl_tree.specs.declared.trees.Interface.{Interface}
use Rattle.idl_tree.specs.declared.trees.Field.{Field}
use Rattle.idl_tree.specs.declared.trees.Body.{Body}
use Rattle.sheet_rules.specs.Types.{Typ, type_in, body_typ, struct_fields}
use Rattle.sheet_rules.specs.declared.forms.Register.{Register}
use Rattle.sheet_rules.specs.declared.forms.Ref.{Ref}
use Rattle.sheet_rules.specs.declared.forms.Ref.TheVariants as ref

-- the sheet's interfaces and registers, the place of the method's interface, its parameters and its reply, and the
-- type of a stream's item, where there is one
pub record Setting : Type 0 where
  pub interfaces : List Interface
  pub registers : List Register
  pub scope : ℕ
  pub input : Body
  pub output : Body
  pub item : Option Typ

-- the type of the field at a place of a struct
abbrev pub field_typ : List Interface → ℕ → Typ → Option Typ
field_typ interfaces place t = option_map (λ (field : Field). type_in t.scope field.of)
    (option_and_then (λ fields. slice_get fields place) (struct_fields interfaces t))

-- a path leads from a struct to a field of it, and on from there: it passes through no optional, array or map
abbrev pub path_typ : List Interface → List ℕ → Typ → Option Typ
path_typ interfaces [] t = Some t
path_typ interfaces (place ∷ path) t = option_and_then (path_typ interfaces path) (field_typ interfaces place t)

abbrev pub register_typ : List Register → ℕ → Option Typ
register_typ registers place = option_map (λ (register : Register). type_in register.scope register.of) (slice_get registers place)

-- a parameter has at least one name; an item has a type in `each` alone
abbrev pub ref_typ : Setting → Ref → Option Typ
ref_typ s (ref.Param []) = None
ref_typ s (ref.Param (place ∷ path)) = path_typ s.interfaces (place ∷ path) (body_typ s.scope s.input)
ref_typ s (ref.Register place path) = option_and_then (path_typ s.interfaces path) (register_typ s.registers place)
ref_typ s (ref.Item path) = option_and_then (path_typ s.interfaces path) s.item
