-- each body is a struct or an enum, and each core is of one of its kinds
use Rattle.std.proofs.Common.{◌≡◌, List, subst}
use Rattle.idl_token.specs.Lex.{Bytes}
use Rattle.idl_tree.specs.declared.trees.Named.{Named}
use Rattle.idl_tree.specs.declared.trees.Field.{Field}
use Rattle.idl_tree.specs.declared.trees.TypeRef.{TypeRef}
use Rattle.idl_tree.specs.declared.trees.Core.{Core, roll-Core, out-Core, roll-out-Core}
use Rattle.idl_tree.specs.declared.trees.Body.{Body, roll-Body, out-Body, roll-out-Body}
use Rattle.idl_tree.specs.declared.trees.Body.TheVariants.{Struct, Enum, Bool as BoolCore, Int, Float, Str, Object, Name, Inline, rolls-Struct, rolls-Enum}
use Rattle.idl_tree.specs.declared.trees.Core.TheVariants.{rolls-Bool, rolls-Int, rolls-Float, rolls-Str, rolls-Object, rolls-Name, rolls-Inline}
use Rattle.idl_tree.specs.declared.trees.Body.TheOpen.{Body-F, Core-F}

pub data BodyView : Body → Type 0 where
  a_struct : {body : Body} (fields : List Field) (ending : List Bytes) → body ≡ Struct fields ending → BodyView body
  an_enum : {body : Body} (names : List Named) (ending : List Bytes) → body ≡ Enum names ending → BodyView body

layer_view : (layer : Body-F Body Core Field TypeRef) → BodyView (roll-Body layer)
layer_view (Body-F.Struct fields ending) = a_struct fields ending (rolls-Struct fields ending)
layer_view (Body-F.Enum names ending) = an_enum names ending (rolls-Enum names ending)

pub body_view : (body : Body) → BodyView body
body_view body = subst (λ (b : Body). BodyView b) (roll-out-Body body) (layer_view (out-Body body))

pub data CoreView : Core → Type 0 where
  a_bool : {core : Core} → core ≡ BoolCore → CoreView core
  an_int : {core : Core} → core ≡ Int → CoreView core
  a_float : {core : Core} → core ≡ Float → CoreView core
  a_string : {core : Core} → core ≡ Str → CoreView core
  an_object : {core : Core} → core ≡ Object → CoreView core
  a_name : {core : Core} (name : Bytes) → core ≡ Name name → CoreView core
  a_body : {core : Core} (body : Body) → core ≡ Inline body → CoreView core

core_layer_view : (layer : Core-F Body Core Field TypeRef) → CoreView (roll-Core layer)
core_layer_view Core-F.Bool = a_bool rolls-Bool
core_layer_view Core-F.Int = an_int rolls-Int
core_layer_view Core-F.Float = a_float rolls-Float
core_layer_view Core-F.Str = a_string rolls-Str
core_layer_view Core-F.Object = an_object rolls-Object
core_layer_view (Core-F.Name name) = a_name name (rolls-Name name)
core_layer_view (Core-F.Inline body) = a_body body (rolls-Inline body)

pub core_view : (core : Core) → CoreView core
core_view core = subst (λ (c : Core). CoreView c) (roll-out-Core core) (core_layer_view (out-Core core))
