-- The items of a tree, laid out by the grammar of an interface definition, by cases on the tree
-- (varlink.org, "Interface Definition"). Each list of notes stands before what it belongs to.
use Rattle.std.specs.Prelude.{List, [], ◌∷◌, ◌++◌, map, codes}
use Rattle.std.specs.List.{flat_map}
use Rattle.idl_token.specs.Lex.{Bytes, Lexeme, Lexemes}
use Rattle.idl_token.specs.declared.tokens.ItemKind.TheVariants.{Word, Mark, Note}
use Rattle.idl_tree.specs.declared.trees.Interface.{Interface}
use Rattle.idl_tree.specs.declared.trees.Member.{Member}
use Rattle.idl_tree.specs.declared.trees.Named.{Named}
use Rattle.idl_tree.specs.declared.trees.Part.{Part}
use Rattle.idl_tree.specs.declared.trees.Part.TheVariants.{Shape, Method, Fault}
use Rattle.idl_tree.specs.declared.trees.Prefix.{Prefix}
use Rattle.idl_tree.specs.declared.trees.Prefix.TheVariants.{Array, Map, Maybe}
use Rattle.idl_tree.specs.declared.trees.Body.{Body}
use Rattle.idl_tree.specs.declared.trees.Core.{Core}
use Rattle.idl_tree.specs.declared.trees.TypeRef.{TypeRef}
use Rattle.idl_tree.specs.declared.trees.Body.TheOpen.{Body-F, Core-F, Field-F, TypeRef-F}
use Rattle.idl_tree.specs.declared.trees.Body.TheFolds.{fold-Body, fold-Core, fold-TypeRef}

abbrev pub word : Bytes → Lexeme
word spelling = (Word, spelling)

abbrev pub mark : Bytes → Lexeme
mark spelling = (Mark, spelling)

abbrev pub left_bracket : Lexeme
left_bracket = mark (codes "(")

abbrev pub right_bracket : Lexeme
right_bracket = mark (codes ")")

abbrev pub comma : Lexeme
comma = mark (codes ",")

abbrev pub colon : Lexeme
colon = mark (codes ":")

abbrev pub question : Lexeme
question = mark (codes "?")

abbrev pub left_square : Lexeme
left_square = mark (codes "[")

abbrev pub right_square : Lexeme
right_square = mark (codes "]")

abbrev pub arrow : Lexeme
arrow = mark (codes "->")

-- a note's text is what follows its `#`
abbrev pub note : Bytes → Lexeme
note text = (Note, 35 ∷ text)

abbrev pub notes_items : List Bytes → Lexemes
notes_items notes = map note notes

-- entries with a comma between each two
abbrev pub joined : List Lexemes → Lexemes
joined [] = []
joined (entry ∷ entries) = entry ++ flat_map (λ next. comma ∷ next) entries

abbrev pub bracketed : List Lexemes → List Bytes → Lexemes
bracketed entries ending = left_bracket ∷ joined entries ++ notes_items ending ++ right_bracket ∷ []

abbrev pub prefix_items : Prefix → Lexemes
prefix_items Array = left_square ∷ right_square ∷ []
prefix_items Map = left_square ∷ word (codes "string") ∷ right_square ∷ []
prefix_items Maybe = question ∷ []

abbrev pub named_items : Named → Lexemes
named_items named = notes_items named.notes ++ word named.name ∷ []

abbrev pub body_items_step : Body-F Lexemes Lexemes Lexemes Lexemes → Lexemes
body_items_step (Body-F.Struct fields ending) = bracketed fields ending
body_items_step (Body-F.Enum names ending) = bracketed (map named_items names) ending

abbrev pub core_items_step : Core-F Lexemes Lexemes Lexemes Lexemes → Lexemes
core_items_step Core-F.Bool = word (codes "bool") ∷ []
core_items_step Core-F.Int = word (codes "int") ∷ []
core_items_step Core-F.Float = word (codes "float") ∷ []
core_items_step Core-F.Str = word (codes "string") ∷ []
core_items_step Core-F.Object = word (codes "object") ∷ []
core_items_step (Core-F.Name name) = word name ∷ []
core_items_step (Core-F.Inline body) = body

abbrev pub field_items_step : Field-F Lexemes Lexemes Lexemes Lexemes → Lexemes
field_items_step field = notes_items field.notes ++ word field.name ∷ colon ∷ field.of

abbrev pub type_items_step : TypeRef-F Lexemes Lexemes Lexemes Lexemes → Lexemes
type_items_step of = flat_map prefix_items of.prefixes ++ of.core

abbrev pub body_items : Body → Lexemes
body_items = fold-Body Lexemes Lexemes Lexemes Lexemes body_items_step core_items_step field_items_step type_items_step

abbrev pub core_items : Core → Lexemes
core_items = fold-Core Lexemes Lexemes Lexemes Lexemes body_items_step core_items_step field_items_step type_items_step

abbrev pub type_items : TypeRef → Lexemes
type_items = fold-TypeRef Lexemes Lexemes Lexemes Lexemes body_items_step core_items_step field_items_step type_items_step

abbrev pub part_items : Bytes → Part → Lexemes
part_items name (Shape body) = word (codes "type") ∷ word name ∷ body_items body
part_items name (Method input output) = word (codes "method") ∷ word name ∷ body_items input ++ arrow ∷ body_items output
part_items name (Fault body) = word (codes "error") ∷ word name ∷ body_items body

abbrev pub member_items : Member → Lexemes
member_items member = notes_items member.notes ++ part_items member.name member.part

abbrev pub Items : Interface → Lexemes
Items tree = notes_items tree.notes ++ word (codes "interface") ∷ word tree.name ∷ flat_map member_items tree.members ++ notes_items tree.tail
