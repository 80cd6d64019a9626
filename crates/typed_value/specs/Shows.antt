-- The JSON tree that shows a value, by cases on the value: a struct's field of value `Nothing` is not
-- written, `Nothing` is null elsewhere, and an object has its keys in byte order.
use Rattle.std.specs.Prelude.{ℕ, List, [], ◌∷◌, map, Option, Some, None, option_map, slice_get}
use Rattle.serde_json.specs.Data.{Data, null, boolean, number, string, array, object, Items, Members, no_members, put}
use Rattle.serde_json.specs.Find.{of_integer}
use Rattle.serde_json.specs.View.{items_of}
use Rattle.idl_tree.specs.Names.{Bytes}
use Rattle.idl_tree.specs.declared.trees.Interface.{Interface}
use Rattle.idl_tree.specs.declared.trees.Prefix.{Prefix}
use Rattle.idl_tree.specs.declared.trees.Named.{Named}
use Rattle.idl_tree.specs.declared.trees.Field.{Field}
use Rattle.idl_tree.specs.declared.trees.TypeRef.{TypeRef}
use Rattle.idl_tree.specs.declared.trees.Body.{Body}
use Rattle.idl_tree.specs.declared.trees.Core.{Core}
use Rattle.typed_value.specs.Bodies.{part_prefixes, body_of, fields_or_none, names_or_none, fields_of}
use Rattle.typed_value.specs.declared.vals.Val.{Val, out-Val}
use Rattle.typed_value.specs.declared.vals.Val.TheOpen.{Val-F}
use Rattle.typed_value.specs.declared.vals.Val.TheFolds.{fold-Val}

-- a value by each type, prefixes and core: the tree that is written, or None where a struct's field is
-- left out
abbrev pub Writer : Type 0
Writer = List Prefix → Core → Option Data

abbrev pub or_null : Option Data → Data
or_null None = null
or_null (Some d) = d

abbrev pub name_at : ℕ → List Named → Option Bytes
name_at place names = option_map (λ named. named.name) (slice_get names place)

-- members, with the entries of a map
abbrev pub with_entries : List Prefix → Core → List (Bytes × Writer) → Members → Members
with_entries prefixes core [] ms = ms
with_entries prefixes core (entry ∷ entries) ms =
    with_entries prefixes core entries (put entry.0 (or_null (entry.1 prefixes core)) ms)

-- members, with a struct's field where it is written
abbrev pub with_written : Bytes → Option Data → Members → Members
with_written name None ms = ms
with_written name (Some d) ms = put name d ms

abbrev pub with_fields : List Field → List Writer → Members → Members
with_fields (field ∷ fields) (writes ∷ values) ms =
    with_fields fields values (with_written field.name (writes field.of.prefixes field.of.core) ms)
with_fields fields values ms = ms

abbrev pub write_step : Interface → Val-F Writer → Writer
write_step scope (Val-F.Bool b) prefixes core = Some (boolean b)
write_step scope (Val-F.Int z) prefixes core = Some (number (of_integer z))
write_step scope (Val-F.Str s) prefixes core = Some (string s)
write_step scope (Val-F.Items values) prefixes core =
    Some (array (items_of (map (λ writes. or_null (writes (part_prefixes prefixes) core)) values)))
write_step scope (Val-F.Map entries) prefixes core =
    Some (object (with_entries (part_prefixes prefixes) core entries no_members))
write_step scope (Val-F.Struct values) prefixes core =
    Some (object (with_fields (fields_or_none (body_of scope core)) values no_members))
write_step scope (Val-F.Pick place) prefixes core =
    option_map string (name_at place (names_or_none (body_of scope core)))
write_step scope Val-F.Nothing prefixes core = None
write_step scope (Val-F.Foreign d) prefixes core = Some d

abbrev pub writer : Interface → Val → Writer
writer scope = fold-Val Writer (write_step scope)

-- the parts of an array, a map and a struct
abbrev pub items_shown : Interface → List Prefix → Core → List Val → Items
items_shown scope prefixes core values =
    items_of (map (λ v. or_null (writer scope v prefixes core)) values)

abbrev pub entries_shown : Interface → List Prefix → Core → List (Bytes × Val) → Members
entries_shown scope prefixes core entries =
    with_entries prefixes core (map (λ (entry : Bytes × Val). (entry.0, writer scope entry.1)) entries)
    no_members

abbrev pub fields_shown : Interface → List Field → List Val → Members
fields_shown scope fields values = with_fields fields (map (writer scope) values) no_members

-- the JSON tree that shows a value of a type
abbrev pub Shows : Interface → TypeRef → Val → Data
Shows scope of v = or_null (writer scope v of.prefixes of.core)

-- the one that shows a struct's value
abbrev pub shows_struct : Interface → List Field → Val-F Val → Data
shows_struct scope fields (Val-F.Struct values) = object (fields_shown scope fields values)
shows_struct scope fields value = null

abbrev pub ShowsFields : Interface → Body → Val → Data
ShowsFields scope body v = shows_struct scope (fields_of body) (out-Val v)
