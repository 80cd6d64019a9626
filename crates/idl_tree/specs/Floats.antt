-- Which types reach `float` (varlink.org, "Interface Definition"): it stands in them, or in the type of a
-- name that stands in them, in finitely many steps from a name to its type.
use Rattle.std.specs.Prelude.{◌≡◌, ℕ, zero, suc, ◌<◌, Bool, true, false, ◌||◌, List, [], ◌∷◌, ◌++◌, length, Option, Some, None}
use Rattle.std.specs.BTreeMap.{get_by_text}
use Rattle.std.specs.List.{list_any}
use Rattle.idl_tree.specs.Names.{Bytes}
use Rattle.idl_tree.specs.Faults.{type_named, shape_in}
use Rattle.idl_tree.specs.Marks.{has, is_marked, users_at}
use Rattle.idl_tree.specs.declared.places.Index.{Index}
use Rattle.idl_tree.specs.declared.trees.Member.{Member}
use Rattle.idl_tree.specs.declared.trees.Interface.{Interface}
use Rattle.idl_tree.specs.declared.trees.Body.{Body}
use Rattle.idl_tree.specs.declared.trees.TypeRef.{TypeRef}
use Rattle.idl_tree.specs.declared.trees.Body.TheOpen.{Body-F, Core-F, Field-F, TypeRef-F}
use Rattle.idl_tree.specs.declared.trees.Body.TheFolds.{fold-Body, fold-TypeRef}

-- `float` stands in it, brackets in place included
abbrev pub body_float_step : Body-F Bool Bool Bool Bool → Bool
body_float_step (Body-F.Struct fields ending) = list_any (λ float. float) fields
body_float_step (Body-F.Enum names ending) = false

abbrev pub core_float_step : Core-F Bool Bool Bool Bool → Bool
core_float_step Core-F.Float = true
core_float_step (Core-F.Inline body) = body
core_float_step core = false

abbrev pub field_float_step : Field-F Bool Bool Bool Bool → Bool
field_float_step field = field.of

abbrev pub type_float_step : TypeRef-F Bool Bool Bool Bool → Bool
type_float_step of = of.core

abbrev pub body_has_float : Body → Bool
body_has_float =
    fold-Body Bool Bool Bool Bool body_float_step core_float_step field_float_step type_float_step

abbrev pub type_has_float : TypeRef → Bool
type_has_float =
    fold-TypeRef Bool Bool Bool Bool body_float_step core_float_step field_float_step type_float_step

-- the names of types that stand in it, brackets in place included, in text order
abbrev pub joined : List (List Bytes) → List Bytes
joined [] = []
joined (names ∷ rest) = names ++ joined rest

abbrev pub Used : Type 0
Used = List Bytes

abbrev pub body_used_step : Body-F Used Used Used Used → Used
body_used_step (Body-F.Struct fields ending) = joined fields
body_used_step (Body-F.Enum names ending) = []

abbrev pub core_used_step : Core-F Used Used Used Used → Used
core_used_step (Core-F.Name name) = name ∷ []
core_used_step (Core-F.Inline body) = body
core_used_step core = []

abbrev pub field_used_step : Field-F Used Used Used Used → Used
field_used_step field = field.of

abbrev pub type_used_step : TypeRef-F Used Used Used Used → Used
type_used_step of = of.core

abbrev pub body_used : Body → Used
body_used = fold-Body Used Used Used Used body_used_step core_used_step field_used_step type_used_step

abbrev pub type_used : TypeRef → Used
type_used =
    fold-TypeRef Used Used Used Used body_used_step core_used_step field_used_step type_used_step

-- the type of that name reaches `float` in at most so many steps
abbrev pub body_reaches : (Bytes → Bool) → Body → Bool
body_reaches reaches body = body_has_float body || list_any reaches (body_used body)

abbrev pub found_reaches : (Bytes → Bool) → Option Body → Bool
found_reaches reaches None = false
found_reaches reaches (Some body) = body_reaches reaches body

abbrev pub name_reaches : Interface → ℕ → Bytes → Bool
name_reaches scope zero name = false
name_reaches scope (suc steps) name = found_reaches (name_reaches scope steps) (type_named name scope)

-- a body and a type reach it in finitely many steps
abbrev pub BodyReaches : Interface → Body → Type 0
BodyReaches scope body = (steps : ℕ) × (body_reaches (name_reaches scope steps) body ≡ true)

abbrev pub TypeReaches : Interface → TypeRef → Type 0
TypeReaches scope of = (steps : ℕ)
    × ((type_has_float of || list_any (name_reaches scope steps) (type_used of)) ≡ true)

-- ---- for private clauses

-- the places of the types of those names
abbrev pub place_or_none : Option ℕ → List ℕ
place_or_none None = []
place_or_none (Some place) = place ∷ []

abbrev pub places_of : Index → List Bytes → List ℕ
places_of index [] = []
places_of index (name ∷ names) = place_or_none (get_by_text index.types name) ++ places_of index names

-- the names that the type at a place uses, and whether `float` stands in it
abbrev pub part_used : Option Body → Used
part_used None = []
part_used (Some body) = body_used body

abbrev pub member_used : Member → Used
member_used member = part_used (shape_in member.part)

abbrev pub part_has_float : Option Body → Bool
part_has_float None = false
part_has_float (Some body) = body_has_float body

abbrev pub member_has_float : Member → Bool
member_has_float member = part_has_float (shape_in member.part)

abbrev pub used_at : List Member → ℕ → Used
used_at [] i = []
used_at (member ∷ members) zero = member_used member
used_at (member ∷ members) (suc i) = used_at members i

-- the lists of users tell the places that each type uses
abbrev pub TellsUsers : Index → List Member → List (List ℕ) → Type 0
TellsUsers index members users = (p i : ℕ) → p < length users
    → has i (users_at users p) ≡ has p (places_of index (used_at members i))

-- the type of that name is marked
abbrev pub place_marked : List Bool → Option ℕ → Bool
place_marked marks None = false
place_marked marks (Some place) = is_marked marks place

abbrev pub name_marked : Index → List Bool → Bytes → Bool
name_marked index marks name = place_marked marks (get_by_text index.types name)

-- the marks tell which names reach `float`
pub record TellsFloats (index : Index) (tree : Interface) (marks : List Bool) : Type 0 where
  pub sound : (name : Bytes) → name_marked index marks name ≡ true
      → (steps : ℕ) × (name_reaches tree steps name ≡ true)
  pub whole : (name : Bytes) (steps : ℕ) → name_reaches tree steps name ≡ true
      → name_marked index marks name ≡ true
