-- What a JSON tree is by a type (varlink.org, "Interface Definition": bool, int, string, object, arrays,
-- maps, nullable types, structs, enums and named types), by cases on the type. A struct or an enum may
-- hold itself by its name: the types are walked along the tree, whose parts are read first.
use Rattle.std.specs.Prelude.{Bool, true, ◌&&◌, List, [], ◌∷◌, map, position, find, if◌then◌else◌, Option, Some, None, is_some, is_none, option_map, option_and_then}
use Rattle.std.specs.Map.{lookup}
use Rattle.std.specs.Str.{bytes_eq}
use Rattle.serde_json.specs.Data.{Data, null, boolean, number, string, array, object, Items, no_items, item, Members, no_members, member}
use Rattle.serde_json.specs.Find.{as_null, as_bool, as_number, as_str, as_object}
use Rattle.idl_tree.specs.Names.{Bytes}
use Rattle.idl_tree.specs.Form.{begins_with_maybe}
use Rattle.idl_tree.specs.Faults.{type_named}
use Rattle.idl_tree.specs.declared.trees.Interface.{Interface}
use Rattle.idl_tree.specs.declared.trees.Prefix.{Prefix}
use Rattle.idl_tree.specs.declared.trees.Prefix.TheVariants.{Array, Map, Maybe}
use Rattle.idl_tree.specs.declared.trees.Named.{Named}
use Rattle.idl_tree.specs.declared.trees.Field.{Field}
use Rattle.idl_tree.specs.declared.trees.TypeRef.{TypeRef}
use Rattle.idl_tree.specs.declared.trees.Body.{Body, out-Body}
use Rattle.idl_tree.specs.declared.trees.Core.{Core, out-Core}
use Rattle.idl_tree.specs.declared.trees.Body.TheOpen.{Body-F, Core-F}
use Rattle.typed_value.specs.Bodies.{fields_of}
use Rattle.typed_value.specs.Ints.{int_of}
use Rattle.typed_value.specs.KeyOrder.{are_in_order, is_whole_tree}
use Rattle.typed_value.specs.declared.vals.Val.{Val}
use Rattle.typed_value.specs.declared.vals.Val.TheVariants as val

-- a JSON value by each type, prefixes and core: the value that reads, or None
abbrev pub Reader : Type 0
Reader = List Prefix → Core → Option Val

-- all of them, where none is missing
abbrev pub all_of : {A : Type 0} → List (Option A) → Option (List A)
all_of [] = Some []
all_of (None ∷ found) = None
all_of (Some value ∷ found) = option_map (λ values. value ∷ values) (all_of found)

-- the parts of an object by one type, in the order of their keys
abbrev pub entries_by : List Prefix → Core → List (Bytes × Reader) → Option (List (Bytes × Val))
entries_by prefixes core members = if are_in_order (map (λ member. member.0) members)
    then all_of (map (λ member. option_map (λ value. (member.0, value)) (member.1 prefixes core))
    members)
    else None

-- a member by its field's type; an absent one is `Nothing` where the type is `?T`, and else does not
-- read
abbrev pub member_by : Field → Option Reader → Option Val
member_by field (Some reads) = reads field.of.prefixes field.of.core
member_by field None = if begins_with_maybe field.of.prefixes then Some val.Nothing else None

abbrev pub field_by : List (Bytes × Reader) → Field → Option Val
field_by members field = member_by field (lookup (bytes_eq field.name) members)

-- a string that is one of the names is the place of the first such one
abbrev pub pick_by : List Named → Option Bytes → Option Val
pick_by names word =
    option_and_then (λ w. option_map val.Pick (position (λ named. bytes_eq named.name w) names)) word

-- an object of whole numbers, its keys in order as in every tree that is read, is itself
abbrev pub foreign_by : Data → Option Val
foreign_by d = if is_some (as_object d) && is_whole_tree d then Some (val.Foreign d) else None

-- a struct is an object, whose other members are dropped; an enum is one of its names
abbrev pub body_by : Data → Option (List (Bytes × Reader)) → Body-F Body Core Field TypeRef → Option Val
body_by d members (Body-F.Struct fields ending) =
    option_and_then (λ parts. option_map val.Struct (all_of (map (field_by parts) fields))) members
body_by d members (Body-F.Enum names ending) = pick_by names (as_str d)

abbrev pub core_by : Interface → Data → Option (List (Bytes × Reader)) → Core-F Body Core Field TypeRef
    → Option Val
core_by scope d members Core-F.Bool = option_map val.Bool (as_bool d)
core_by scope d members Core-F.Int = option_map val.Int (option_and_then int_of (as_number d))
core_by scope d members Core-F.Float = None
core_by scope d members Core-F.Str = option_map val.Str (as_str d)
core_by scope d members Core-F.Object = foreign_by d
core_by scope d members (Core-F.Name name) =
    option_and_then (λ body. body_by d members (out-Body body)) (type_named name scope)
core_by scope d members (Core-F.Inline body) = body_by d members (out-Body body)

-- the value of a tree, given how its items are read where it is an array, and its members where it is an
-- object
abbrev pub value_by : Interface → Data → Option (List Reader) → Option (List (Bytes × Reader)) → Reader
value_by scope d items members [] core = core_by scope d members (out-Core core)
value_by scope d items members (Maybe ∷ prefixes) core =
    if is_some (as_null d) then Some val.Nothing else value_by scope d items members prefixes core
value_by scope d items members (Array ∷ prefixes) core =
    option_and_then (λ parts. option_map val.Items (all_of (map (λ reads. reads prefixes core) parts)))
    items
value_by scope d items members (Map ∷ prefixes) core =
    option_and_then (λ parts. option_map val.Map (entries_by prefixes core parts)) members

abbrev mutual
  pub reader : Interface → Data → Reader
  reader scope null = value_by scope null None None
  reader scope (boolean b) = value_by scope (boolean b) None None
  reader scope (number n) = value_by scope (number n) None None
  reader scope (string s) = value_by scope (string s) None None
  reader scope (array ds) = value_by scope (array ds) (Some (item_readers scope ds)) None
  reader scope (object ms) = value_by scope (object ms) None (Some (member_readers scope ms))

  pub item_readers : Interface → Items → List Reader
  item_readers scope no_items = []
  item_readers scope (item d ds) = reader scope d ∷ item_readers scope ds

  pub member_readers : Interface → Members → List (Bytes × Reader)
  member_readers scope no_members = []
  member_readers scope (member k d ms) = (k, reader scope d) ∷ member_readers scope ms

-- the value of a JSON tree by a type, where one reads
abbrev pub Reads : Interface → TypeRef → Data → Option Val
Reads scope of d = reader scope d of.prefixes of.core

-- the value of a JSON tree by a body
abbrev pub ReadsBody : Interface → Body → Data → Option Val
ReadsBody scope body d = body_by d (option_map (member_readers scope) (as_object d)) (out-Body body)

-- the name of the first field, in declared order, that does not read
abbrev pub first_unread : Interface → Body → Data → Option Bytes
first_unread scope body d = option_and_then (λ (members : List (Bytes × Reader)).
    option_map (λ (field : Field). field.name)
    (find (λ field. is_none (field_by members field)) (fields_of body)))
    (option_map (member_readers scope) (as_object d))
