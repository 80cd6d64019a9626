-- what is formed by a type gives it
use Rattle.std.proofs.Common.{◌≡◌, ℕ, List, [], ◌∷◌, Option, Some, None, option_map, option_and_then, refl, sym, ap, ◌∙◌}
use Rattle.idl_tree.specs.Names.{Bytes}
use Rattle.idl_tree.specs.declared.trees.Interface.{Interface}
use Rattle.sheet_rules.specs.Types.{Typ, body_typ}
use Rattle.sheet_rules.specs.Settings.{Setting, field_typ, path_typ, register_typ, ref_typ}
use Rattle.sheet_rules.specs.declared.forms.Ref.{Ref}
use Rattle.sheet_rules.specs.declared.forms.Ref.TheVariants as ref
use Rattle.expression_draft.specs.declared.drafts.RefDraft.{RefDraft}
use Rattle.expression_draft.specs.declared.drafts.RefDraft.TheVariants as draft
use Rattle.expression_form.specs.References.{field_place, field_named, path_formed, register_place, with_path, refers_in, ref_formed}

-- ---- references

module _ (interfaces : List Interface) where
  abbrev FieldHas : Typ → Option (ℕ × Typ) → Type 0
  FieldHas t None = Unit {0}
  FieldHas t (Some found) = field_typ interfaces found.0 t ≡ Some found.1

  abbrev PathHas : Typ → Option (List ℕ × Typ) → Type 0
  PathHas t None = Unit {0}
  PathHas t (Some found) = path_typ interfaces found.0 t ≡ Some found.1

  found_has : (t : Typ) (place : ℕ) (found : Option Typ) → field_typ interfaces place t ≡ found
      → FieldHas t (option_map (λ (u : Typ). (place, u)) found)
  found_has t place None h = tt
  found_has t place (Some u) h = h

  placed_has : (t : Typ) (found : Option ℕ)
      → FieldHas t (option_and_then (λ place. option_map (λ (u : Typ). (place, u)) (field_typ interfaces place t)) found)
  placed_has t None = tt
  placed_has t (Some place) = found_has t place (field_typ interfaces place t) refl

  field_has : (name : Bytes) (t : Typ) → FieldHas t (field_named interfaces name t)
  field_has name t = placed_has t (field_place interfaces name t)

  one_more : (t : Typ) (found : ℕ × Typ) → field_typ interfaces found.0 t ≡ Some found.1
      → (left : Option (List ℕ × Typ)) → PathHas found.1 left
      → PathHas t (option_map (λ (rest : List ℕ × Typ). (found.0 ∷ rest.0, rest.1)) left)
  one_more t found is None h = tt
  one_more t found is (Some rest) h = rw is h

  behind_has : (names : List Bytes) → ((u : Typ) → PathHas u (path_formed interfaces names u)) → (t : Typ) (found : Option (ℕ × Typ)) → FieldHas t found
      → PathHas t (option_and_then (λ (f : ℕ × Typ).
      option_map (λ (rest : List ℕ × Typ). (f.0 ∷ rest.0, rest.1)) (path_formed interfaces names f.1)) found)
  behind_has names has t None h = tt
  behind_has names has t (Some found) h = one_more t found h (path_formed interfaces names found.1) (has found.1)

  pub path_has : (names : List Bytes) (t : Typ) → PathHas t (path_formed interfaces names t)
  path_has [] t = refl
  path_has (name ∷ names) t = behind_has names (path_has names) t (field_named interfaces name t) (field_has name t)

module _ (s : Setting) where
  abbrev pub RefHas : Option (Ref × Typ) → Type 0
  RefHas None = Unit {0}
  RefHas (Some found) = ref_typ s found.0 ≡ Some found.1

  -- a parameter's path is not empty, since its names aren't
  param_behind : (found : ℕ × Typ) → field_typ s.interfaces found.0 (body_typ s.scope s.input) ≡ Some found.1
      → (left : Option (List ℕ × Typ)) → PathHas s.interfaces found.1 left
      → RefHas (with_path ref.Param (option_map (λ (rest : List ℕ × Typ). (found.0 ∷ rest.0, rest.1)) left))
  param_behind found is None h = tt
  param_behind found is (Some rest) h = rw is h

  param_has : (name : Bytes) (names : List Bytes) (found : Option (ℕ × Typ)) → FieldHas s.interfaces (body_typ s.scope s.input) found
      → RefHas (with_path ref.Param (option_and_then (λ (f : ℕ × Typ).
      option_map (λ (rest : List ℕ × Typ). (f.0 ∷ rest.0, rest.1)) (path_formed s.interfaces names f.1)) found))
  param_has name names None h = tt
  param_has name names (Some found) h =
      param_behind found h (path_formed s.interfaces names found.1) (path_has s.interfaces names found.1)

  register_behind : (place : ℕ) (t : Typ) → register_typ s.registers place ≡ Some t
      → (left : Option (List ℕ × Typ)) → PathHas s.interfaces t left → RefHas (with_path (ref.Register place) left)
  register_behind place t is None h = tt
  register_behind place t is (Some rest) h = rw is h

  register_at : (place : ℕ) (names : List Bytes) (found : Option Typ) → register_typ s.registers place ≡ found
      → RefHas (option_and_then (λ t. with_path (ref.Register place) (path_formed s.interfaces names t)) found)
  register_at place names None is = tt
  register_at place names (Some t) is = register_behind place t is (path_formed s.interfaces names t) (path_has s.interfaces names t)

  register_has : (names : List Bytes) (found : Option ℕ) → RefHas (option_and_then (λ place. refers_in s place names) found)
  register_has names None = tt
  register_has names (Some place) = register_at place names (register_typ s.registers place) refl

  item_behind : (t : Typ) → s.item ≡ Some t → (left : Option (List ℕ × Typ)) → PathHas s.interfaces t left → RefHas (with_path ref.Item left)
  item_behind t is None h = tt
  item_behind t is (Some rest) h = rw is h

  item_has : (names : List Bytes) (found : Option Typ) → s.item ≡ found
      → RefHas (option_and_then (λ t. with_path ref.Item (path_formed s.interfaces names t)) found)
  item_has names None is = tt
  item_has names (Some t) is = item_behind t is (path_formed s.interfaces names t) (path_has s.interfaces names t)

  pub ref_has : (d : RefDraft) → RefHas (ref_formed s d)
  ref_has (draft.Param []) = tt
  ref_has (draft.Param (name ∷ names)) =
      param_has name names (field_named s.interfaces name (body_typ s.scope s.input)) (field_has s.interfaces name (body_typ s.scope s.input))
  ref_has (draft.Register []) = tt
  ref_has (draft.Register (name ∷ names)) = register_has names (register_place s.registers name)
  ref_has (draft.Item names) = item_has names s.item refl

-- ---- the law, from what holds of each answer

abbrev pub RefIs : Setting → Option (Ref × Typ) → Type 0
RefIs s found = (r : Ref) (t : Typ) → found ≡ Some (r, t) → ref_typ s r ≡ Some t

ref_is : (s : Setting) (found : Option (Ref × Typ)) → RefHas s found → RefIs s found
ref_is s None h r t never = absurd (cc)
ref_is s (Some found) h r t same =
    let one : found ≡ (r, t) = cc in
    ap (λ (f : Ref × Typ). ref_typ s f.0) (sym one) ∙ h ∙ ap (λ (f : Ref × Typ). Some f.1) one

pub refs_have_types : (s : Setting) (d : RefDraft) → RefIs s (ref_formed s d)
refs_have_types s d = ref_is s (ref_formed s d) (ref_has s d)
