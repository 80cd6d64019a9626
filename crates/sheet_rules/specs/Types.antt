-- The types that a rule meets: prefixes and a core, with the place of the interface that their names belong to.
use Rattle.std.specs.Prelude.{ℕ, Bool, true, false, ◌&&◌, ◌||◌, ◌==◌, not, List, [], ◌∷◌, map, Option, Some, None, option_and_then, slice_get}
use Rattle.std.specs.List.{list_all, list_any}
use Rattle.std.specs.Ordering.{nat_cmp, is_lt}
use Rattle.std.specs.Cmp.Lexicographic.{slice_cmp}
use Rattle.idl_tree.specs.Names.{Bytes}
use Rattle.idl_tree.specs.Same.{same_prefixes, same_core}
use Rattle.idl_tree.specs.declared.trees.Interface.{Interface}
use Rattle.idl_tree.specs.declared.trees.Prefix.{Prefix}
use Rattle.idl_tree.specs.declared.trees.Prefix.TheVariants.{Array, Map, Maybe}
use Rattle.idl_tree.specs.declared.trees.Field.{Field}
use Rattle.idl_tree.specs.declared.trees.TypeRef.{TypeRef}
use Rattle.idl_tree.specs.declared.trees.Body.{Body, out-Body}
use Rattle.idl_tree.specs.declared.trees.Core.{Core, out-Core}
use Rattle.idl_tree.specs.declared.trees.Core.TheVariants.{Int, Str, Inline}
use Rattle.idl_tree.specs.declared.trees.Body.TheOpen.{Body-F, Core-F, Field-F, TypeRef-F}
use Rattle.idl_tree.specs.declared.trees.Body.TheFolds.{fold-Body, fold-Core, fold-TypeRef}
use Rattle.typed_value.specs.Bodies.{body_of}
use Rattle.typed_value.specs.KeyOrder.{are_in_order}
use Rattle.typed_value.specs.OfType.{is_plain, is_whole, fits}
use Rattle.typed_value.specs.declared.vals.Val.{Val}

pub record Typ : Type 0 where
  pub scope : ℕ
  pub prefixes : List Prefix
  pub core : Core

abbrev pub type_in : ℕ → TypeRef → Typ
type_in scope of = record { scope = scope; prefixes = of.prefixes; core = of.core }

abbrev pub body_typ : ℕ → Body → Typ
body_typ scope body = record { scope = scope; prefixes = []; core = Inline body }

abbrev pub int_typ : ℕ → Typ
int_typ scope = record { scope = scope; prefixes = []; core = Int }

abbrev pub string_typ : ℕ → Typ
string_typ scope = record { scope = scope; prefixes = []; core = Str }

-- there is one, and it passes the test
abbrev pub passes : {A : Type 0} → (A → Bool) → Option A → Bool
passes test None = false
passes test (Some x) = test x

-- `int`
abbrev pub is_int_core : Core → Bool
is_int_core core = is_whole (out-Core core)

abbrev pub is_int_typ : Typ → Bool
is_int_typ t = is_plain t.prefixes && is_int_core t.core

-- the same core behind other prefixes
abbrev pub behind : Typ → List Prefix → Typ
behind t prefixes = record { scope = t.scope; prefixes = prefixes; core = t.core }

-- without a leading `?`
abbrev pub behind_maybe : List Prefix → List Prefix
behind_maybe (Maybe ∷ prefixes) = prefixes
behind_maybe prefixes = prefixes

abbrev pub without_maybe : Typ → Typ
without_maybe t = behind t (behind_maybe t.prefixes)

-- U where the type is `[]U`, `[string]U` or `?U`
abbrev pub after_array : List Prefix → Option (List Prefix)
after_array (Array ∷ prefixes) = Some prefixes
after_array prefixes = None

abbrev pub after_map : List Prefix → Option (List Prefix)
after_map (Map ∷ prefixes) = Some prefixes
after_map prefixes = None

abbrev pub after_maybe : List Prefix → Option (List Prefix)
after_maybe (Maybe ∷ prefixes) = Some prefixes
after_maybe prefixes = None

abbrev pub part_behind : Typ → Option (List Prefix) → Option Typ
part_behind t None = None
part_behind t (Some prefixes) = Some (behind t prefixes)

abbrev pub array_part : Typ → Option Typ
array_part t = part_behind t (after_array t.prefixes)

abbrev pub map_part : Typ → Option Typ
map_part t = part_behind t (after_map t.prefixes)

abbrev pub maybe_part : Typ → Option Typ
maybe_part t = part_behind t (after_maybe t.prefixes)

-- a name stands in it as a type
abbrev pub body_names_step : Body-F Bool Bool Bool Bool → Bool
body_names_step (Body-F.Struct fields ending) = list_any (λ named. named) fields
body_names_step (Body-F.Enum names ending) = false

abbrev pub core_names_step : Core-F Bool Bool Bool Bool → Bool
core_names_step (Core-F.Name name) = true
core_names_step (Core-F.Inline body) = body
core_names_step core = false

abbrev pub field_names_step : Field-F Bool Bool Bool Bool → Bool
field_names_step field = field.of

abbrev pub type_names_step : TypeRef-F Bool Bool Bool Bool → Bool
type_names_step of = of.core

abbrev pub body_has_name : Body → Bool
body_has_name = fold-Body Bool Bool Bool Bool body_names_step core_names_step field_names_step type_names_step

abbrev pub core_has_name : Core → Bool
core_has_name = fold-Core Bool Bool Bool Bool body_names_step core_names_step field_names_step type_names_step

abbrev pub type_has_name : TypeRef → Bool
type_has_name = fold-TypeRef Bool Bool Bool Bool body_names_step core_names_step field_names_step type_names_step

-- two types are the same where their prefixes and cores agree; and where a name occurs in them, both belong to the
-- same interface
abbrev pub same_typ : Typ → Typ → Bool
same_typ t u = same_prefixes t.prefixes u.prefixes && same_core t.core u.core
    && (t.scope == u.scope || not (core_has_name t.core))

-- a type S fits T where they are the same, or T is `?S`
abbrev pub fits_typ : Typ → Typ → Bool
fits_typ s t = same_typ s t || passes (same_typ s) (maybe_part t)

-- found where there is no prefix
abbrev pub if_plain : {A : Type 0} → List Prefix → Option A → Option A
if_plain [] found = found
if_plain (prefix ∷ prefixes) found = None

-- the body of a type that is one, in place or by name
abbrev pub typ_body : List Interface → Typ → Option Body
typ_body interfaces t = if_plain t.prefixes (option_and_then (λ scope. body_of scope t.core) (slice_get interfaces t.scope))

-- the fields of a struct
abbrev pub struct_in : Body-F Body Core Field TypeRef → Option (List Field)
struct_in (Body-F.Struct fields ending) = Some fields
struct_in (Body-F.Enum names ending) = None

abbrev pub struct_of : Body → Option (List Field)
struct_of body = struct_in (out-Body body)

abbrev pub struct_fields : List Interface → Typ → Option (List Field)
struct_fields interfaces t = option_and_then struct_of (typ_body interfaces t)

-- a value is of a type
abbrev pub is_of_typ : List Interface → Typ → Val → Bool
is_of_typ interfaces t v = passes (λ scope. fits scope v t.prefixes t.core) (slice_get interfaces t.scope)

-- a key is before the first of those that follow, where there is one
abbrev pub is_before_next : Bytes → List Bytes → Bool
is_before_next key [] = true
is_before_next key (next ∷ keys) = is_lt (slice_cmp nat_cmp key next)

-- the entries of a map: the keys in byte order, each once, and values of one type
abbrev pub map_fits : Interface → List (Bytes × Val) → List Prefix → Core → Bool
map_fits scope entries (Map ∷ prefixes) core =
    are_in_order (map (λ (entry : Bytes × Val). entry.0) entries)
    && list_all (λ (entry : Bytes × Val). fits scope entry.1 prefixes core) entries
map_fits scope entries prefixes core = false
