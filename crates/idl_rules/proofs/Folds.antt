-- the items, the form and the depth of a body, a field and a type, one level opened
use Rattle.std.proofs.Common.{◌≡◌, ℕ, suc, Bool, true, ◌&&◌, not, eqb, List, [], ◌∷◌, ◌++◌, map, length, codes, ap, ◌∙◌}
use Rattle.std.specs.List.{flat_map, list_all}
use Rattle.std.proofs.lemmas.List.Folds.{list_all-map}
use Rattle.idl_token.specs.Lex.{Bytes, Lexemes}
use Rattle.idl_tree.specs.declared.trees.Named.{Named}
use Rattle.idl_tree.specs.declared.trees.Field.{Field}
use Rattle.idl_tree.specs.declared.trees.TypeRef.{TypeRef}
use Rattle.idl_tree.specs.declared.trees.Core.{Core}
use Rattle.idl_tree.specs.declared.trees.Prefix.{Prefix}
use Rattle.idl_tree.specs.declared.trees.Body.{Body}
use Rattle.idl_tree.specs.declared.trees.Body.TheVariants.{Struct, Enum, Bool as BoolCore, Int, Float, Str, Object, Name, Inline}
use Rattle.idl_tree.specs.declared.trees.Body.TheFolds.{fold-Core}
use Rattle.idl_tree.specs.Names.{is_field_name, is_member_name}
use Rattle.idl_tree.specs.Form.{body_form, type_form, core_form, body_form_step, core_form_step, field_form_step, type_form_step, are_notes, named_form, has_single_maybes, body_depth, type_depth, body_depth_step, core_depth_step, field_depth_step, type_depth_step, greatest}
use Rattle.idl_tree.proofs.Opened.{struct_opens, enum_opens, type_opens}
use Rattle.idl_rules.specs.Items.{word, left_bracket, right_bracket, colon, joined, notes_items, named_items, prefix_items, body_items, type_items, core_items, body_items_step, core_items_step, field_items_step, type_items_step}
use Rattle.idl_rules.proofs.OpenedCores.{bool_opens, int_opens, float_opens, string_opens, object_opens, name_opens, inline_opens}

abbrev pub prefixes_items : List Prefix → Lexemes
prefixes_items prefixes = flat_map prefix_items prefixes

abbrev pub field_items : Field → Lexemes
field_items field = notes_items field.notes ++ word field.name ∷ colon ∷ type_items field.of

abbrev pub core_depth : Core → ℕ
core_depth = fold-Core ℕ ℕ ℕ ℕ body_depth_step core_depth_step field_depth_step type_depth_step

abbrev pub field_form : Field → Bool
field_form field = are_notes field.notes && is_field_name field.name && type_form field.of

abbrev pub field_depth : Field → ℕ
field_depth field = type_depth field.of

pub struct_items : (fields : List Field) (ending : List Bytes)
    → body_items (Struct fields ending) ≡ left_bracket ∷ joined (map field_items fields) ++ notes_items ending ++ right_bracket ∷ []
struct_items fields ending = struct_opens Lexemes Lexemes Lexemes Lexemes body_items_step core_items_step field_items_step type_items_step fields ending

pub enum_items : (names : List Named) (ending : List Bytes)
    → body_items (Enum names ending) ≡ left_bracket ∷ joined (map named_items names) ++ notes_items ending ++ right_bracket ∷ []
enum_items names ending = enum_opens Lexemes Lexemes Lexemes Lexemes body_items_step core_items_step field_items_step type_items_step names ending

pub type_is : (of : TypeRef) → type_items of ≡ prefixes_items of.prefixes ++ core_items of.core
type_is of = type_opens Lexemes Lexemes Lexemes Lexemes body_items_step core_items_step field_items_step type_items_step of

pub inline_items : (body : Body) → core_items (Inline body) ≡ body_items body
inline_items body = inline_opens Lexemes Lexemes Lexemes Lexemes body_items_step core_items_step field_items_step type_items_step body

pub name_items : (name : Bytes) → core_items (Name name) ≡ word name ∷ []
name_items name = name_opens Lexemes Lexemes Lexemes Lexemes body_items_step core_items_step field_items_step type_items_step name

pub struct_form : (fields : List Field) (ending : List Bytes)
    → body_form (Struct fields ending) ≡ (list_all field_form fields && are_notes ending)
struct_form fields ending =
    struct_opens Bool Bool Bool Bool body_form_step core_form_step field_form_step type_form_step fields ending
    ∙ ap (λ (form : Bool). form && are_notes ending) (list_all-map (λ (form : Bool). form) field_form fields)

pub enum_form : (names : List Named) (ending : List Bytes)
    → body_form (Enum names ending) ≡ (not (eqb (length names) 0) && list_all named_form names && are_notes ending)
enum_form names ending = enum_opens Bool Bool Bool Bool body_form_step core_form_step field_form_step type_form_step names ending

pub type_form_is : (of : TypeRef) → type_form of ≡ (has_single_maybes of.prefixes && core_form of.core)
type_form_is of = type_opens Bool Bool Bool Bool body_form_step core_form_step field_form_step type_form_step of

pub inline_form : (body : Body) → core_form (Inline body) ≡ body_form body
inline_form body = inline_opens Bool Bool Bool Bool body_form_step core_form_step field_form_step type_form_step body

pub name_form : (name : Bytes) → core_form (Name name) ≡ is_member_name name
name_form name = name_opens Bool Bool Bool Bool body_form_step core_form_step field_form_step type_form_step name

pub struct_depth : (fields : List Field) (ending : List Bytes) → body_depth (Struct fields ending) ≡ suc (greatest (map field_depth fields))
struct_depth fields ending = struct_opens ℕ ℕ ℕ ℕ body_depth_step core_depth_step field_depth_step type_depth_step fields ending

pub enum_depth : (names : List Named) (ending : List Bytes) → body_depth (Enum names ending) ≡ 1
enum_depth names ending = enum_opens ℕ ℕ ℕ ℕ body_depth_step core_depth_step field_depth_step type_depth_step names ending

pub type_depth_is : (of : TypeRef) → type_depth of ≡ core_depth of.core
type_depth_is of = type_opens ℕ ℕ ℕ ℕ body_depth_step core_depth_step field_depth_step type_depth_step of

pub inline_depth : (body : Body) → core_depth (Inline body) ≡ body_depth body
inline_depth body = inline_opens ℕ ℕ ℕ ℕ body_depth_step core_depth_step field_depth_step type_depth_step body

pub bool_items : core_items BoolCore ≡ word (codes "bool") ∷ []
bool_items = bool_opens Lexemes Lexemes Lexemes Lexemes body_items_step core_items_step field_items_step type_items_step

pub bool_form : core_form BoolCore ≡ true
bool_form = bool_opens Bool Bool Bool Bool body_form_step core_form_step field_form_step type_form_step

pub bool_depth : core_depth BoolCore ≡ 0
bool_depth = bool_opens ℕ ℕ ℕ ℕ body_depth_step core_depth_step field_depth_step type_depth_step

pub int_items : core_items Int ≡ word (codes "int") ∷ []
int_items = int_opens Lexemes Lexemes Lexemes Lexemes body_items_step core_items_step field_items_step type_items_step

pub int_form : core_form Int ≡ true
int_form = int_opens Bool Bool Bool Bool body_form_step core_form_step field_form_step type_form_step

pub int_depth : core_depth Int ≡ 0
int_depth = int_opens ℕ ℕ ℕ ℕ body_depth_step core_depth_step field_depth_step type_depth_step

pub float_items : core_items Float ≡ word (codes "float") ∷ []
float_items = float_opens Lexemes Lexemes Lexemes Lexemes body_items_step core_items_step field_items_step type_items_step

pub float_form : core_form Float ≡ true
float_form = float_opens Bool Bool Bool Bool body_form_step core_form_step field_form_step type_form_step

pub float_depth : core_depth Float ≡ 0
float_depth = float_opens ℕ ℕ ℕ ℕ body_depth_step core_depth_step field_depth_step type_depth_step

pub string_items : core_items Str ≡ word (codes "string") ∷ []
string_items = string_opens Lexemes Lexemes Lexemes Lexemes body_items_step core_items_step field_items_step type_items_step

pub string_form : core_form Str ≡ true
string_form = string_opens Bool Bool Bool Bool body_form_step core_form_step field_form_step type_form_step

pub string_depth : core_depth Str ≡ 0
string_depth = string_opens ℕ ℕ ℕ ℕ body_depth_step core_depth_step field_depth_step type_depth_step

pub object_items : core_items Object ≡ word (codes "object") ∷ []
object_items = object_opens Lexemes Lexemes Lexemes Lexemes body_items_step core_items_step field_items_step type_items_step

pub object_form : core_form Object ≡ true
object_form = object_opens Bool Bool Bool Bool body_form_step core_form_step field_form_step type_form_step

pub object_depth : core_depth Object ≡ 0
object_depth = object_opens ℕ ℕ ℕ ℕ body_depth_step core_depth_step field_depth_step type_depth_step

pub name_depth : (name : Bytes) → core_depth (Name name) ≡ 0
name_depth name = name_opens ℕ ℕ ℕ ℕ body_depth_step core_depth_step field_depth_step type_depth_step name
