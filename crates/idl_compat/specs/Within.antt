-- When each value of one type can be read by another (varlink.org, "Interface Definition": the types), as a
-- table of what a pair of types requires. A pair that needs further pairs is named with the word that leads
-- to each of them.
use Rattle.std.specs.Prelude.{◌≡◌, Bool, true, false, ◌&&◌, ◌⊎◌, List, [], ◌∷◌, ◌++◌, codes, find, Option, Some, None, is_none, if◌then◌else◌}
use Rattle.std.specs.List.{list_all, list_any}
use Rattle.std.specs.Str.{bytes_eq}
use Rattle.idl_tree.specs.Names.{Bytes}
use Rattle.idl_tree.specs.Form.{begins_with_maybe}
use Rattle.idl_tree.specs.declared.trees.Interface.{Interface}
use Rattle.idl_tree.specs.declared.trees.Prefix.{Prefix}
use Rattle.idl_tree.specs.declared.trees.Prefix.TheVariants.{Array, Map, Maybe}
use Rattle.idl_tree.specs.declared.trees.Named.{Named}
use Rattle.idl_tree.specs.declared.trees.Field.{Field}
use Rattle.idl_tree.specs.declared.trees.TypeRef.{TypeRef}
use Rattle.idl_tree.specs.declared.trees.Body.{Body, out-Body}
use Rattle.idl_tree.specs.declared.trees.Core.{Core, out-Core}
use Rattle.idl_tree.specs.declared.trees.Core.TheVariants.{Inline}
use Rattle.idl_tree.specs.declared.trees.Body.TheOpen.{Body-F, Core-F}
use Rattle.typed_value.specs.Bodies.{body_of}

-- the two definitions, that of the values' type and that of the type which reads them
abbrev pub Scopes : Type 0
Scopes = Interface × Interface

-- a type: its prefixes and its core
abbrev pub Kind : Type 0
Kind = List Prefix × Core

-- the type of the values, and the type that is to read them
abbrev pub Pair : Type 0
Pair = Kind × Kind

-- the word that leads on, and the pair to which it leads, or None where it leads to a field that is missing
abbrev pub Step : Type 0
Step = Bytes × Option Pair

-- what a pair requires, or None where it fails
abbrev pub Line : Type 0
Line = Option (List Step)

abbrev pub fails : Line
fails = None

abbrev pub nothing : Line
nothing = Some []

abbrev pub requires : Bytes → Kind → Kind → Line
requires word from to = Some ((word, Some (from, to)) ∷ [])

abbrev pub word_of : Prefix → Bytes
word_of Maybe = codes "?"
word_of Array = codes "[]"
word_of Map = codes "[string]"

abbrev pub same_basic : Core-F Body Core Field TypeRef → Core-F Body Core Field TypeRef → Bool
same_basic Core-F.Bool Core-F.Bool = true
same_basic Core-F.Int Core-F.Int = true
same_basic Core-F.Float Core-F.Float = true
same_basic Core-F.Str Core-F.Str = true
same_basic Core-F.Object Core-F.Object = true
same_basic one other = false

abbrev pub is_string : Core-F Body Core Field TypeRef → Bool
is_string Core-F.Str = true
is_string core = false

abbrev pub is_enum : Body-F Body Core Field TypeRef → Bool
is_enum (Body-F.Struct fields ending) = false
is_enum (Body-F.Enum names ending) = true

abbrev pub enum_or_none : Option Body → Bool
enum_or_none None = false
enum_or_none (Some body) = is_enum (out-Body body)

abbrev pub nothing_where : Bool → Line
nothing_where holds = if holds then nothing else fails

abbrev pub kind_of : Field → Kind
kind_of field = (field.of.prefixes, field.of.core)

-- a field that is read: the pair of its types, and where the values lack it, nothing if it is optional
abbrev pub field_step : Option Field → Field → List Step
field_step (Some given) field = (field.name, Some (kind_of given, kind_of field)) ∷ []
field_step None field = if begins_with_maybe field.of.prefixes then [] else (field.name, None) ∷ []

abbrev pub field_named : Bytes → List Field → Option Field
field_named name fields = find (λ field. bytes_eq field.name name) fields

abbrev pub field_steps : List Field → List Field → List Step
field_steps given [] = []
field_steps given (field ∷ fields) = field_step (field_named field.name given) field ++ field_steps given fields

-- each name of the one enum is a name of the other
abbrev pub has_all : List Named → List Named → Bool
has_all names others = list_all (λ (named : Named). list_any (λ (other : Named). bytes_eq other.name named.name) others) names

abbrev pub body_line : Body-F Body Core Field TypeRef → Body-F Body Core Field TypeRef → Line
body_line (Body-F.Struct fields ending) (Body-F.Struct others other) = Some (field_steps fields others)
body_line (Body-F.Enum names ending) (Body-F.Enum others other) = nothing_where (has_all names others)
body_line one other = fails

-- cores, each the name of a type or a body in place where it has a body
abbrev pub core_line : Core → Core → Option Body → Option Body → Line
core_line core other None None = nothing_where (same_basic (out-Core core) (out-Core other))
core_line core other (Some body) None = nothing_where (is_enum (out-Body body) && is_string (out-Core other))
core_line core other None (Some body) = fails
core_line core other (Some body) (Some reads) = body_line (out-Body body) (out-Body reads)

-- the first line that fits: `?U` by `?V`; what has no `?` by `?V`; arrays; maps; and types without prefixes
abbrev pub kind_line : Scopes → List Prefix → Core → List Prefix → Core → Line
kind_line scopes (Maybe ∷ from) core (Maybe ∷ to) other = requires (word_of Maybe) (from, core) (to, other)
kind_line scopes from core (Maybe ∷ to) other = requires (word_of Maybe) (from, core) (to, other)
kind_line scopes (Array ∷ from) core (Array ∷ to) other = requires (word_of Array) (from, core) (to, other)
kind_line scopes (Map ∷ from) core (Map ∷ to) other = requires (word_of Map) (from, core) (to, other)
kind_line scopes [] core [] other = core_line core other (body_of scopes.0 core) (body_of scopes.1 other)
kind_line scopes from core to other = fails

abbrev pub line : Scopes → Pair → Line
line scopes pair = kind_line scopes pair.0.0 pair.0.1 pair.1.0 pair.1.1

abbrev pub steps_of : Line → List Step
steps_of None = []
steps_of (Some steps) = steps

-- a step is one of them
abbrev pub Among : Step → List Step → Type 0
Among step [] = ⊥
Among step (first ∷ steps) = (step ≡ first) ⊎ Among step steps

-- whether a chain of these words leads from the pair to one that fails, or to a field that is missing
unfoldable pub leads_to_failure : Scopes → List Bytes → Option Pair → Bool
leads_to_failure scopes [] None = true
leads_to_failure scopes [] (Some pair) = is_none (line scopes pair)
leads_to_failure scopes (word ∷ words) None = false
leads_to_failure scopes (word ∷ words) (Some pair) =
    list_any (λ (step : Step). bytes_eq step.0 word && leads_to_failure scopes words step.1) (steps_of (line scopes pair))

-- no chain leads from the pair to one that fails
abbrev pub Within : Scopes → Pair → Type 0
Within scopes pair = (words : List Bytes) → leads_to_failure scopes words (Some pair) ≡ false

-- the pair of two bodies
abbrev pub bodies : Body → Body → Pair
bodies body reads = (([], Inline body), ([], Inline reads))
