-- A value of a type is what it shows, and nothing else.
use Rattle.std.specs.Prelude.{◌≡◌, ◌↔◌, ◌≤◌, true, Some, None, is_some}
use Rattle.serde_json.specs.Data.{Data, depth}
use Rattle.serde_json.specs.Find.{as_object}
use Rattle.link_port.specs.SoundTrees.{IsSound}
use Rattle.idl_tree.specs.Faults.{Good, defines, type_fault, body_fault}
use Rattle.idl_tree.specs.Form.{is_struct}
use Rattle.idl_tree.specs.declared.trees.Interface.{Interface}
use Rattle.idl_tree.specs.declared.trees.Body.{Body}
use Rattle.idl_tree.specs.declared.trees.TypeRef.{TypeRef}
use Rattle.typed_value.specs.OfType.{is_of_type, is_of_body}
use Rattle.typed_value.specs.Reads.{Reads, ReadsBody}
use Rattle.typed_value.specs.Shows.{Shows, ShowsFields}
use Rattle.typed_value.specs.Sizes.{is_whole, levels_of}
use Rattle.typed_value.specs.declared.vals.Val.{Val}

-- the type's names are defined, and the names in each of its brackets are distinct
abbrev pub HasNames : Interface → TypeRef → Type 0
HasNames scope of = type_fault (defines scope) of ≡ None

-- of the tree that shows a value of a type, that value reads and no other
abbrev pub ReadsBackAlone : Type 0
ReadsBackAlone = (scope : Interface) (of : TypeRef) (v w : Val) → Good scope → HasNames scope of
    → is_of_type scope of v ≡ true
    → (Reads scope of (Shows scope of v) ≡ Some w) ↔ (v ≡ w)

-- the same of a struct and the object that shows its value
abbrev pub StructReadsBackAlone : Type 0
StructReadsBackAlone = (scope : Interface) (body : Body) (v w : Val) → Good scope
    → body_fault (defines scope) body ≡ None
    → is_struct body ≡ true → is_of_body scope body v ≡ true
    → (ReadsBody scope body (ShowsFields scope body v) ≡ Some w) ↔ (v ≡ w)

-- foreign data of a value of a type has no numbers but whole ones, so two such values can be compared
abbrev pub IsWholeOfType : Type 0
IsWholeOfType = (scope : Interface) (of : TypeRef) (v : Val) → is_of_type scope of v ≡ true
    → is_whole v ≡ true

-- what reads is of the type
abbrev pub ReadsOfType : Type 0
ReadsOfType = (scope : Interface) (of : TypeRef) (tree : Data) (v : Val) → Reads scope of tree ≡ Some v
    → is_of_type scope of v ≡ true

-- the tree that shows a value of a type has whole numbers alone, and the keys of its objects in byte order and each
-- once: so its text stands for it alone
abbrev pub ShowsSound : Type 0
ShowsSound = (scope : Interface) (of : TypeRef) (v : Val) → is_of_type scope of v ≡ true → IsSound (Shows scope of v)

-- that of a struct's value is such an object
abbrev pub StructShowsSound : Type 0
StructShowsSound = (scope : Interface) (body : Body) (v : Val) → is_struct body ≡ true → is_of_body scope body v ≡ true
    → IsSound (ShowsFields scope body v) × (is_some (as_object (ShowsFields scope body v)) ≡ true)

-- the tree that shows a value is no deeper than the value
abbrev pub ShowsNoDeeper : Type 0
ShowsNoDeeper = (scope : Interface) (of : TypeRef) (v : Val) → depth (Shows scope of v) ≤ levels_of v

abbrev pub StructShowsNoDeeper : Type 0
StructShowsNoDeeper = (scope : Interface) (body : Body) (v : Val) → depth (ShowsFields scope body v) ≤ levels_of v

-- a value is no deeper than the tree from which it reads
abbrev pub ReadsNoDeeper : Type 0
ReadsNoDeeper = (scope : Interface) (of : TypeRef) (tree : Data) (v : Val) → Reads scope of tree ≡ Some v
    → levels_of v ≤ depth tree

-- so a value of a type, whose names are as in reading, is exactly as deep as the tree that shows it
abbrev pub ShowsAsDeep : Type 0
ShowsAsDeep = (scope : Interface) (of : TypeRef) (v : Val) → Good scope → HasNames scope of
    → is_of_type scope of v ≡ true → depth (Shows scope of v) ≡ levels_of v
