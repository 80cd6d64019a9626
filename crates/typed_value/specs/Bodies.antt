-- What a type is behind its prefixes and names.
use Rattle.std.specs.Prelude.{List, [], ◌∷◌, Option, Some, None}
use Rattle.idl_tree.specs.Faults.{type_named}
use Rattle.idl_tree.specs.declared.trees.Interface.{Interface}
use Rattle.idl_tree.specs.declared.trees.Prefix.{Prefix}
use Rattle.idl_tree.specs.declared.trees.Prefix.TheVariants.{Maybe}
use Rattle.idl_tree.specs.declared.trees.Named.{Named}
use Rattle.idl_tree.specs.declared.trees.Field.{Field}
use Rattle.idl_tree.specs.declared.trees.TypeRef.{TypeRef}
use Rattle.idl_tree.specs.declared.trees.Body.{Body, out-Body}
use Rattle.idl_tree.specs.declared.trees.Core.{Core, out-Core}
use Rattle.idl_tree.specs.declared.trees.Body.TheOpen.{Body-F, Core-F}

-- the prefixes behind those that are `?`
abbrev pub behind_maybes : List Prefix → List Prefix
behind_maybes [] = []
behind_maybes (Maybe ∷ prefixes) = behind_maybes prefixes
behind_maybes (prefix ∷ prefixes) = prefix ∷ prefixes

-- the prefixes behind the first that is no `?`: those of an array's items or a map's values
abbrev pub behind_first : List Prefix → List Prefix
behind_first [] = []
behind_first (prefix ∷ prefixes) = prefixes

abbrev pub part_prefixes : List Prefix → List Prefix
part_prefixes prefixes = behind_first (behind_maybes prefixes)

-- the body of a type by name or in place
abbrev pub body_in : Interface → Core-F Body Core Field TypeRef → Option Body
body_in scope (Core-F.Name name) = type_named name scope
body_in scope (Core-F.Inline body) = Some body
body_in scope core = None

abbrev pub body_of : Interface → Core → Option Body
body_of scope core = body_in scope (out-Core core)

-- the fields of a struct, and the names of an enum
abbrev pub fields_in : Body-F Body Core Field TypeRef → List Field
fields_in (Body-F.Struct fields ending) = fields
fields_in (Body-F.Enum names ending) = []

abbrev pub names_in : Body-F Body Core Field TypeRef → List Named
names_in (Body-F.Struct fields ending) = []
names_in (Body-F.Enum names ending) = names

abbrev pub fields_of : Body → List Field
fields_of body = fields_in (out-Body body)

abbrev pub names_of : Body → List Named
names_of body = names_in (out-Body body)

-- those of a core's body, where it has one
abbrev pub fields_or_none : Option Body → List Field
fields_or_none None = []
fields_or_none (Some body) = fields_of body

abbrev pub names_or_none : Option Body → List Named
names_or_none None = []
names_or_none (Some body) = names_of body
