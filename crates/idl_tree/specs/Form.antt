-- The form of a tree, by cases on the tree, and the depth of its brackets (varlink.org, "Interface
-- Definition").
use Rattle.std.specs.Prelude.{ℕ, suc, ◌-◌, max, Bool, true, false, ◌||◌, ◌&&◌, ◌==◌, not, List, [], ◌∷◌, length, map, slice_index, IsTrue}
use Rattle.std.specs.List.{list_all}
use Rattle.std.specs.Str.{is_utf8}
use Rattle.idl_tree.specs.Names.{Bytes, is_interface_name, is_member_name, is_field_name}
use Rattle.idl_tree.specs.declared.trees.Interface.{Interface}
use Rattle.idl_tree.specs.declared.trees.Member.{Member}
use Rattle.idl_tree.specs.declared.trees.Named.{Named}
use Rattle.idl_tree.specs.declared.trees.Part.{Part}
use Rattle.idl_tree.specs.declared.trees.Part.TheVariants.{Shape, Method, Fault}
use Rattle.idl_tree.specs.declared.trees.Prefix.{Prefix}
use Rattle.idl_tree.specs.declared.trees.Prefix.TheVariants.{Maybe}
use Rattle.idl_tree.specs.declared.trees.Body.{Body, out-Body}
use Rattle.idl_tree.specs.declared.trees.Core.{Core}
use Rattle.idl_tree.specs.declared.trees.TypeRef.{TypeRef}
use Rattle.idl_tree.specs.declared.trees.Body.TheOpen.{Body-F, Core-F, Field-F, TypeRef-F}
use Rattle.idl_tree.specs.declared.trees.Body.TheFolds.{fold-Body, fold-Core, fold-TypeRef}

-- a note's text is UTF-8, holds no CR or LF, and does not end with a space or tab
abbrev pub is_note : Bytes → Bool
is_note note = is_utf8 note && list_all (λ b. not (b == 13 || b == 10)) note
    && not (slice_index note (length note - 1) == 32 || slice_index note (length note - 1) == 9)

abbrev pub are_notes : List Bytes → Bool
are_notes notes = list_all is_note notes

abbrev pub begins_with_maybe : List Prefix → Bool
begins_with_maybe (Maybe ∷ prefixes) = true
begins_with_maybe prefixes = false

-- no two `?` stand next to each other
abbrev pub has_single_maybes : List Prefix → Bool
has_single_maybes [] = true
has_single_maybes (Maybe ∷ prefixes) = not (begins_with_maybe prefixes) && has_single_maybes prefixes
has_single_maybes (prefix ∷ prefixes) = has_single_maybes prefixes

abbrev pub named_form : Named → Bool
named_form named = are_notes named.notes && is_field_name named.name

-- an enum has a name; each name and note has its form
abbrev pub body_form_step : Body-F Bool Bool Bool Bool → Bool
body_form_step (Body-F.Struct fields ending) = list_all (λ form. form) fields && are_notes ending
body_form_step (Body-F.Enum names ending) = not (length names == 0) && list_all named_form names && are_notes ending

abbrev pub core_form_step : Core-F Bool Bool Bool Bool → Bool
core_form_step (Core-F.Name name) = is_member_name name
core_form_step (Core-F.Inline body) = body
core_form_step core = true

abbrev pub field_form_step : Field-F Bool Bool Bool Bool → Bool
field_form_step field = are_notes field.notes && is_field_name field.name && field.of

abbrev pub type_form_step : TypeRef-F Bool Bool Bool Bool → Bool
type_form_step of = has_single_maybes of.prefixes && of.core

abbrev pub body_form : Body → Bool
body_form = fold-Body Bool Bool Bool Bool body_form_step core_form_step field_form_step type_form_step

abbrev pub core_form : Core → Bool
core_form = fold-Core Bool Bool Bool Bool body_form_step core_form_step field_form_step type_form_step

abbrev pub type_form : TypeRef → Bool
type_form = fold-TypeRef Bool Bool Bool Bool body_form_step core_form_step field_form_step type_form_step

abbrev pub is_struct_layer : {A B C D : Type 0} → Body-F A B C D → Bool
is_struct_layer (Body-F.Struct fields ending) = true
is_struct_layer (Body-F.Enum names ending) = false

abbrev pub is_struct : Body → Bool
is_struct body = is_struct_layer (out-Body body)

-- the bodies of methods and errors are structs
abbrev pub part_form : Part → Bool
part_form (Shape body) = body_form body
part_form (Method input output) = is_struct input && body_form input && is_struct output && body_form output
part_form (Fault body) = is_struct body && body_form body

abbrev pub member_form : Member → Bool
member_form member = are_notes member.notes && is_member_name member.name && part_form member.part

abbrev pub interface_form : Interface → Bool
interface_form tree = are_notes tree.notes && is_interface_name tree.name && list_all member_form tree.members && are_notes tree.tail

abbrev pub Form : Interface → Type 0
Form tree = IsTrue (interface_form tree)

abbrev pub greatest : List ℕ → ℕ
greatest [] = 0
greatest (n ∷ ns) = max n (greatest ns)

-- the number of `(` that are open with the deepest one
abbrev pub body_depth_step : Body-F ℕ ℕ ℕ ℕ → ℕ
body_depth_step (Body-F.Struct fields ending) = suc (greatest fields)
body_depth_step (Body-F.Enum names ending) = 1

abbrev pub core_depth_step : Core-F ℕ ℕ ℕ ℕ → ℕ
core_depth_step (Core-F.Inline body) = body
core_depth_step core = 0

abbrev pub field_depth_step : Field-F ℕ ℕ ℕ ℕ → ℕ
field_depth_step field = field.of

abbrev pub type_depth_step : TypeRef-F ℕ ℕ ℕ ℕ → ℕ
type_depth_step of = of.core

abbrev pub body_depth : Body → ℕ
body_depth = fold-Body ℕ ℕ ℕ ℕ body_depth_step core_depth_step field_depth_step type_depth_step

abbrev pub core_depth : Core → ℕ
core_depth = fold-Core ℕ ℕ ℕ ℕ body_depth_step core_depth_step field_depth_step type_depth_step

abbrev pub type_depth : TypeRef → ℕ
type_depth = fold-TypeRef ℕ ℕ ℕ ℕ body_depth_step core_depth_step field_depth_step type_depth_step

abbrev pub part_depth : Part → ℕ
part_depth (Shape body) = body_depth body
part_depth (Method input output) = max (body_depth input) (body_depth output)
part_depth (Fault body) = body_depth body

abbrev pub Deep : Interface → ℕ
Deep tree = greatest (map (λ member. part_depth member.part) tree.members)
