-- References by names, formed by types: each name leads to the place of a field.
use Rattle.std.specs.Prelude.{ℕ, List, [], ◌∷◌, Option, Some, None, option_map, option_and_then, position}
use Rattle.std.specs.Str.{bytes_eq}
use Rattle.idl_tree.specs.Names.{Bytes}
use Rattle.idl_tree.specs.declared.trees.Interface.{Interface}
use Rattle.idl_tree.specs.declared.trees.Field.{Field}
use Rattle.sheet_rules.specs.Types.{Typ, body_typ, struct_fields}
use Rattle.sheet_rules.specs.Settings.{Setting, field_typ, register_typ}
use Rattle.sheet_rules.specs.declared.forms.Register.{Register}
use Rattle.sheet_rules.specs.declared.forms.Ref.{Ref}
use Rattle.sheet_rules.specs.declared.forms.Ref.TheVariants as ref
use Rattle.expression_draft.specs.declared.drafts.RefDraft.{RefDraft}
use Rattle.expression_draft.specs.declared.drafts.RefDraft.TheVariants as draft

-- the place of the field of that name in a type that is a struct
abbrev pub field_place : List Interface → Bytes → Typ → Option ℕ
field_place interfaces name t = option_and_then (position (λ (field : Field). bytes_eq field.name name)) (struct_fields interfaces t)

-- the same with the field's type
abbrev pub field_named : List Interface → Bytes → Typ → Option (ℕ × Typ)
field_named interfaces name t = option_and_then (λ place. option_map (λ (u : Typ). (place, u)) (field_typ interfaces place t))
    (field_place interfaces name t)

-- the places to which names lead from a type, and the type to which they lead
abbrev pub path_formed : List Interface → List Bytes → Typ → Option (List ℕ × Typ)
path_formed interfaces [] t = Some ([], t)
path_formed interfaces (name ∷ names) t = option_and_then (λ (found : ℕ × Typ).
    option_map (λ (rest : List ℕ × Typ). (found.0 ∷ rest.0, rest.1)) (path_formed interfaces names found.1))
    (field_named interfaces name t)

-- the place of the register of that name
abbrev pub register_place : List Register → Bytes → Option ℕ
register_place registers name = position (λ (register : Register). bytes_eq register.name name) registers

abbrev pub with_path : (List ℕ → Ref) → Option (List ℕ × Typ) → Option (Ref × Typ)
with_path make path = option_map (λ (formed : List ℕ × Typ). (make formed.0, formed.1)) path

-- a path from the register at a place
abbrev pub refers_in : Setting → ℕ → List Bytes → Option (Ref × Typ)
refers_in s place names = option_and_then (λ t. with_path (ref.Register place) (path_formed s.interfaces names t))
    (register_typ s.registers place)

-- a reference with the type of what it refers to
abbrev pub ref_formed : Setting → RefDraft → Option (Ref × Typ)
ref_formed s (draft.Param []) = None
ref_formed s (draft.Param (name ∷ names)) =
    with_path ref.Param (path_formed s.interfaces (name ∷ names) (body_typ s.scope s.input))
ref_formed s (draft.Register []) = None
ref_formed s (draft.Register (name ∷ names)) =
    option_and_then (λ place. refers_in s place names) (register_place s.registers name)
ref_formed s (draft.Item names) = option_and_then (λ t. with_path ref.Item (path_formed s.interfaces names t)) s.item
