-- When two types are the same, notes not counted: equal prefixes, and cores that are the same. Of bodies
-- in place the fields are compared in order, by name and type, and the names of an enum in order.
use Rattle.std.specs.Prelude.{Bool, true, false, ◌&&◌, List, [], ◌∷◌, map}
use Rattle.std.specs.Str.{bytes_eq}
use Rattle.idl_tree.specs.declared.trees.Named.{Named}
use Rattle.idl_tree.specs.declared.trees.Prefix.{Prefix}
use Rattle.idl_tree.specs.declared.trees.Prefix.TheVariants.{Array, Map, Maybe}
use Rattle.idl_tree.specs.declared.trees.Body.{Body, out-Body}
use Rattle.idl_tree.specs.declared.trees.Core.{Core, out-Core}
use Rattle.idl_tree.specs.declared.trees.Field.{Field}
use Rattle.idl_tree.specs.declared.trees.TypeRef.{TypeRef}
use Rattle.idl_tree.specs.declared.trees.Body.TheOpen.{Body-F, Core-F, Field-F, TypeRef-F}
use Rattle.idl_tree.specs.declared.trees.Body.TheFolds.{fold-Body, fold-Core, fold-TypeRef}

-- as many values as tests, each of which passes the test at its place
abbrev pub each_passes : {A : Type 0} → List (A → Bool) → List A → Bool
each_passes [] [] = true
each_passes (test ∷ tests) (value ∷ values) = test value && each_passes tests values
each_passes tests values = false

abbrev pub same_prefix : Prefix → Prefix → Bool
same_prefix Array Array = true
same_prefix Map Map = true
same_prefix Maybe Maybe = true
same_prefix one other = false

abbrev pub same_prefixes : List Prefix → List Prefix → Bool
same_prefixes one other = each_passes (map same_prefix one) other

abbrev pub same_named : Named → Named → Bool
same_named one other = bytes_eq one.name other.name

abbrev pub same_names : List Named → List Named → Bool
same_names one other = each_passes (map same_named one) other

-- each part of the one type is the test of being the same as it
abbrev pub BodyTest : Type 0
BodyTest = Body → Bool

abbrev pub CoreTest : Type 0
CoreTest = Core → Bool

abbrev pub FieldTest : Type 0
FieldTest = Field → Bool

abbrev pub TypeTest : Type 0
TypeTest = TypeRef → Bool

abbrev pub body_test : Body-F BodyTest CoreTest FieldTest TypeTest → Body-F Body Core Field TypeRef → Bool
body_test (Body-F.Struct tests ending) (Body-F.Struct fields other) = each_passes tests fields
body_test (Body-F.Enum names ending) (Body-F.Enum others other) = same_names names others
body_test one other = false

abbrev pub core_test : Core-F BodyTest CoreTest FieldTest TypeTest → Core-F Body Core Field TypeRef → Bool
core_test Core-F.Bool Core-F.Bool = true
core_test Core-F.Int Core-F.Int = true
core_test Core-F.Float Core-F.Float = true
core_test Core-F.Str Core-F.Str = true
core_test Core-F.Object Core-F.Object = true
core_test (Core-F.Name name) (Core-F.Name other) = bytes_eq name other
core_test (Core-F.Inline test) (Core-F.Inline body) = test body
core_test one other = false

abbrev pub same_body_step : Body-F BodyTest CoreTest FieldTest TypeTest → BodyTest
same_body_step one other = body_test one (out-Body other)

abbrev pub same_core_step : Core-F BodyTest CoreTest FieldTest TypeTest → CoreTest
same_core_step one other = core_test one (out-Core other)

abbrev pub same_field_step : Field-F BodyTest CoreTest FieldTest TypeTest → FieldTest
same_field_step one other = bytes_eq one.name other.name && one.of other.of

abbrev pub same_type_step : TypeRef-F BodyTest CoreTest FieldTest TypeTest → TypeTest
same_type_step one other = same_prefixes one.prefixes other.prefixes && one.core other.core

abbrev pub same_body : Body → Body → Bool
same_body = fold-Body BodyTest CoreTest FieldTest TypeTest same_body_step same_core_step same_field_step same_type_step

abbrev pub same_core : Core → Core → Bool
same_core = fold-Core BodyTest CoreTest FieldTest TypeTest same_body_step same_core_step same_field_step same_type_step

abbrev pub same_type : TypeRef → TypeRef → Bool
same_type = fold-TypeRef BodyTest CoreTest FieldTest TypeTest same_body_step same_core_step same_field_step same_type_step

abbrev pub same_field : Field → Field → Bool
same_field one other = bytes_eq one.name other.name && same_type one.of other.of

abbrev pub same_fields : List Field → List Field → Bool
same_fields one other = each_passes (map same_field one) other
