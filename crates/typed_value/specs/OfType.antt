-- Which values are of a type, by cases on the value and the type.
use Rattle.std.specs.Prelude.{Bool, true, false, ◌&&◌, List, [], ◌∷◌, length, map, nat_lt, Option, Some, None, is_some}
use Rattle.std.specs.List.{list_all}
use Rattle.serde_json.specs.Find.{as_object}
use Rattle.idl_tree.specs.Names.{Bytes}
use Rattle.idl_tree.specs.Form.{begins_with_maybe}
use Rattle.idl_tree.specs.declared.trees.Interface.{Interface}
use Rattle.idl_tree.specs.declared.trees.Prefix.{Prefix}
use Rattle.idl_tree.specs.declared.trees.Prefix.TheVariants.{Array, Map}
use Rattle.idl_tree.specs.declared.trees.Field.{Field}
use Rattle.idl_tree.specs.declared.trees.TypeRef.{TypeRef}
use Rattle.idl_tree.specs.declared.trees.Body.{Body, out-Body}
use Rattle.idl_tree.specs.declared.trees.Core.{Core, out-Core}
use Rattle.idl_tree.specs.declared.trees.Core.TheVariants.{Inline}
use Rattle.idl_tree.specs.declared.trees.Body.TheOpen.{Body-F, Core-F}
use Rattle.typed_value.specs.Bodies.{behind_maybes, body_of, names_or_none}
use Rattle.typed_value.specs.Ints.{is_int}
use Rattle.typed_value.specs.KeyOrder.{are_in_order, is_whole_tree}
use Rattle.typed_value.specs.declared.vals.Val.{Val}
use Rattle.typed_value.specs.declared.vals.Val.TheOpen.{Val-F}
use Rattle.typed_value.specs.declared.vals.Val.TheFolds.{fold-Val}

-- whether a value is of each type, prefixes and core
abbrev pub Fit : Type 0
Fit = List Prefix → Core → Bool

abbrev pub is_bool : Core-F Body Core Field TypeRef → Bool
is_bool Core-F.Bool = true
is_bool core = false

abbrev pub is_whole : Core-F Body Core Field TypeRef → Bool
is_whole Core-F.Int = true
is_whole core = false

abbrev pub is_text : Core-F Body Core Field TypeRef → Bool
is_text Core-F.Str = true
is_text core = false

abbrev pub is_foreign : Core-F Body Core Field TypeRef → Bool
is_foreign Core-F.Object = true
is_foreign core = false

-- no prefix but `?`
abbrev pub is_plain : List Prefix → Bool
is_plain [] = true
is_plain (prefix ∷ prefixes) = false

-- an array's items, and a map's values in the byte order of their keys, each key once
abbrev pub items_fit : List Fit → List Prefix → Core → Bool
items_fit values (Array ∷ prefixes) core = list_all (λ fits. fits prefixes core) values
items_fit values prefixes core = false

abbrev pub entries_fit : List (Bytes × Fit) → List Prefix → Core → Bool
entries_fit entries (Map ∷ prefixes) core =
    are_in_order (map (λ entry. entry.0) entries) && list_all (λ entry. entry.1 prefixes core) entries
entries_fit entries prefixes core = false

-- a value for each field, by the field's type
abbrev pub fields_fit : List Field → List Fit → Bool
fields_fit [] [] = true
fields_fit (field ∷ fields) (fits ∷ values) =
    fits field.of.prefixes field.of.core && fields_fit fields values
fields_fit fields values = false

abbrev pub struct_fits : Body-F Body Core Field TypeRef → List Fit → Bool
struct_fits (Body-F.Struct fields ending) values = fields_fit fields values
struct_fits (Body-F.Enum names ending) values = false

abbrev pub body_fits : Option Body → List Fit → Bool
body_fits None values = false
body_fits (Some body) values = struct_fits (out-Body body) values

abbrev pub fit_step : Interface → Val-F Fit → Fit
fit_step scope (Val-F.Bool b) prefixes core =
    is_plain (behind_maybes prefixes) && is_bool (out-Core core)
fit_step scope (Val-F.Int z) prefixes core =
    is_plain (behind_maybes prefixes) && is_whole (out-Core core) && is_int z
fit_step scope (Val-F.Str s) prefixes core = is_plain (behind_maybes prefixes) && is_text (out-Core core)
fit_step scope (Val-F.Items values) prefixes core = items_fit values (behind_maybes prefixes) core
fit_step scope (Val-F.Map entries) prefixes core = entries_fit entries (behind_maybes prefixes) core
fit_step scope (Val-F.Struct values) prefixes core =
    is_plain (behind_maybes prefixes) && body_fits (body_of scope core) values
fit_step scope (Val-F.Pick place) prefixes core =
    is_plain (behind_maybes prefixes) && nat_lt place (length (names_or_none (body_of scope core)))
fit_step scope Val-F.Nothing prefixes core = begins_with_maybe prefixes
fit_step scope (Val-F.Foreign d) prefixes core =
    is_plain (behind_maybes prefixes) && is_foreign (out-Core core) && is_some (as_object d)
    && is_whole_tree d

abbrev pub fits : Interface → Val → Fit
fits scope = fold-Val Fit (fit_step scope)

-- whether a value is of a type
abbrev pub is_of_type : Interface → TypeRef → Val → Bool
is_of_type scope of v = fits scope v of.prefixes of.core

-- whether a value is of a body
abbrev pub is_of_body : Interface → Body → Val → Bool
is_of_body scope body v = fits scope v [] (Inline body)
