-- The canonical text of a tree, by cases on the tree.
use Rattle.std.specs.Prelude.{ℕ, ◌+◌, Bool, false, ◌||◌, ◌&&◌, ◌==◌, not, nat_le, List, [], ◌∷◌, ◌++◌, if◌then◌else◌, map, length, replicate, codes}
use Rattle.std.specs.List.{flat_map, list_any}
use Rattle.idl_token.specs.Lex.{Bytes}
use Rattle.idl_tree.specs.declared.trees.Interface.{Interface}
use Rattle.idl_tree.specs.declared.trees.Member.{Member}
use Rattle.idl_tree.specs.declared.trees.Named.{Named}
use Rattle.idl_tree.specs.declared.trees.Part.{Part}
use Rattle.idl_tree.specs.declared.trees.Part.TheVariants.{Shape, Method, Fault}
use Rattle.idl_tree.specs.declared.trees.Prefix.{Prefix}
use Rattle.idl_tree.specs.declared.trees.Prefix.TheVariants.{Array, Map, Maybe}
use Rattle.idl_tree.specs.declared.trees.Body.{Body}
use Rattle.idl_tree.specs.declared.trees.Core.{Core, out-Core}
use Rattle.idl_tree.specs.declared.trees.Field.{Field}
use Rattle.idl_tree.specs.declared.trees.TypeRef.{TypeRef}
use Rattle.idl_tree.specs.declared.trees.Body.TheOpen.{Body-F, Core-F, Field-F, TypeRef-F}
use Rattle.idl_tree.specs.declared.trees.Body.TheFolds.{fold-Body, fold-Core, fold-TypeRef}

-- the ways to lay a body or a type out: on one line; whether a note stands inside it; and opened,
-- where the line that holds it is indented by so many spaces
pub record Layout : Type 0 where
  pub flat : Bytes
  pub noted : Bool
  pub opened : ℕ → Bytes

-- an entry of a bracket, with the notes before it
pub record Entry : Type 0 where
  pub notes : List Bytes
  pub text : Layout

abbrev pub line_end : Bytes
line_end = 10 ∷ []

abbrev pub spaces : ℕ → Bytes
spaces indent = replicate indent 32

-- each note is a line of its own
abbrev pub note_line : ℕ → Bytes → Bytes
note_line indent note = spaces indent ++ 35 ∷ note ++ line_end

abbrev pub note_lines : ℕ → List Bytes → Bytes
note_lines indent notes = flat_map (note_line indent) notes

abbrev pub plain : Bytes → Layout
plain text = record { flat = text; noted = false; opened = λ indent. text }

-- behind other text
abbrev pub behind : Bytes → Layout → Layout
behind text layout = record { flat = text ++ layout.flat; noted = layout.noted; opened = λ indent. text ++ layout.opened indent }

-- a line without notes inside it has at most 80 bytes
abbrev pub fits : Bool → Bytes → Bool
fits noted line = not noted && nat_le (length line) 80

-- on one line a comma and a space stand before each entry but the first
abbrev pub flat_entries : List Entry → Bytes
flat_entries [] = []
flat_entries (entry ∷ entries) = entry.text.flat ++ flat_map (λ next. codes ", " ++ next.text.flat) entries

-- a comma follows each entry but the last
abbrev pub comma_behind : List Entry → Bytes
comma_behind [] = []
comma_behind (next ∷ entries) = codes ","

abbrev pub entry_line : ℕ → Layout → Bytes → Bytes
entry_line indent text comma = spaces indent
    ++ (if fits text.noted (spaces indent ++ text.flat ++ comma) then text.flat else text.opened indent)
    ++ comma ++ line_end

abbrev pub entry_lines : ℕ → List Entry → Bytes
entry_lines indent [] = []
entry_lines indent (entry ∷ entries) = note_lines indent entry.notes
    ++ entry_line indent entry.text (comma_behind entries) ++ entry_lines indent entries

abbrev pub is_noted : Entry → Bool
is_noted entry = not (length entry.notes == 0) || entry.text.noted

-- an opened body has its entries and the notes before its `)` on lines of their own; a body without
-- them stays `()`
abbrev pub opened_body : List Entry → List Bytes → ℕ → Bytes
opened_body [] [] indent = codes "()"
opened_body entries ending indent = codes "(" ++ line_end ++ entry_lines (indent + 2) entries
    ++ note_lines (indent + 2) ending ++ spaces indent ++ codes ")"

abbrev pub bracket : List Entry → List Bytes → Layout
bracket entries ending = record {
  flat = codes "(" ++ flat_entries entries ++ codes ")";
  noted = list_any is_noted entries || not (length ending == 0);
  opened = opened_body entries ending;
}

abbrev pub named_entry : Named → Entry
named_entry named = record { notes = named.notes; text = plain named.name }

abbrev pub body_step : Body-F Layout Layout Entry Layout → Layout
body_step (Body-F.Struct fields ending) = bracket fields ending
body_step (Body-F.Enum names ending) = bracket (map named_entry names) ending

abbrev pub core_word_in : {A B C D : Type 0} → Core-F A B C D → Bytes
core_word_in Core-F.Bool = codes "bool"
core_word_in Core-F.Int = codes "int"
core_word_in Core-F.Float = codes "float"
core_word_in Core-F.Str = codes "string"
core_word_in Core-F.Object = codes "object"
core_word_in (Core-F.Name name) = name
core_word_in (Core-F.Inline body) = []

-- the word of a core that is no body
abbrev pub core_word : Core → Bytes
core_word core = core_word_in (out-Core core)

abbrev pub core_step : Core-F Layout Layout Entry Layout → Layout
core_step (Core-F.Inline body) = body
core_step core = plain (core_word_in core)

abbrev pub field_step : Field-F Layout Layout Entry Layout → Entry
field_step field = record { notes = field.notes; text = behind (field.name ++ codes ": ") field.of }

abbrev pub prefix_text : Prefix → Bytes
prefix_text Array = codes "[]"
prefix_text Map = codes "[string]"
prefix_text Maybe = codes "?"

abbrev pub type_step : TypeRef-F Layout Layout Entry Layout → Layout
type_step of = behind (flat_map prefix_text of.prefixes) of.core

abbrev pub body_layout : Body → Layout
body_layout = fold-Body Layout Layout Entry Layout body_step core_step field_step type_step

abbrev pub core_layout : Core → Layout
core_layout = fold-Core Layout Layout Entry Layout body_step core_step field_step type_step

abbrev pub type_layout : TypeRef → Layout
type_layout = fold-TypeRef Layout Layout Entry Layout body_step core_step field_step type_step

-- a field with its notes
abbrev pub field_entry : Field → Entry
field_entry field = record { notes = field.notes; text = behind (field.name ++ codes ": ") (type_layout field.of) }

-- a member without its own notes
abbrev pub part_layout : Bytes → Part → Layout
part_layout name (Shape body) = behind (codes "type " ++ name ++ codes " ") (body_layout body)
part_layout name (Method input output) = record {
  flat = codes "method " ++ name ++ (body_layout input).flat ++ codes " -> " ++ (body_layout output).flat;
  noted = (body_layout input).noted || (body_layout output).noted;
  opened = λ indent. codes "method " ++ name ++ (body_layout input).opened indent ++ codes " -> " ++ (body_layout output).opened indent;
}
part_layout name (Fault body) = behind (codes "error " ++ name ++ codes " ") (body_layout body)

abbrev pub part_text : Layout → Bytes
part_text part = if fits part.noted part.flat then part.flat else part.opened 0

-- each member has one empty line, its notes, and its text
abbrev pub member_text : Member → Bytes
member_text member = line_end ++ note_lines 0 member.notes ++ part_text (part_layout member.name member.part) ++ line_end

-- the last notes come after one empty line
abbrev pub tail_text : List Bytes → Bytes
tail_text [] = []
tail_text tail = line_end ++ note_lines 0 tail

abbrev pub Canon : Interface → Bytes
Canon tree = note_lines 0 tree.notes ++ codes "interface " ++ tree.name ++ line_end
    ++ flat_map member_text tree.members ++ tail_text tree.tail
