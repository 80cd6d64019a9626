-- the canonical text of a tree is the tree's items
use Rattle.std.proofs.Common.{◌≡◌, ℕ, zero, suc, ◌≤◌, true, ◌&&◌, not, eqb, List, [], ◌∷◌, ◌++◌, map, length, codes, refl, sym, ap, subst, ◌∙◌, append_assoc, arith}
use Rattle.std.specs.List.{list_all, flat_map}
use Rattle.std.proofs.lemmas.List.{append-nil}
use Rattle.std.proofs.lemmas.Bool.{and_parts, or_parts}
use Rattle.idl_token.specs.Lex.{Bytes, Lexeme, Lexemes, Lex}
use Rattle.idl_tree.specs.declared.trees.Interface.{Interface}
use Rattle.idl_tree.specs.declared.trees.Member.{Member}
use Rattle.idl_tree.specs.declared.trees.Named.{Named}
use Rattle.idl_tree.specs.declared.trees.Field.{Field}
use Rattle.idl_tree.specs.declared.trees.TypeRef.{TypeRef}
use Rattle.idl_tree.specs.declared.trees.Core.{Core}
use Rattle.idl_tree.specs.declared.trees.Prefix.{Prefix}
use Rattle.idl_tree.specs.declared.trees.Prefix.TheVariants.{Array, Map, Maybe}
use Rattle.idl_tree.specs.declared.trees.Part.{Part}
use Rattle.idl_tree.specs.declared.trees.Part.TheVariants as part
use Rattle.idl_tree.specs.declared.trees.Body.{Body}
use Rattle.idl_tree.specs.declared.trees.Body.TheVariants.{Struct, Enum, Bool as BoolCore, Int, Float, Str, Object, Name, Inline}
use Rattle.idl_tree.specs.Names.{is_interface_name, is_member_name, is_field_name}
use Rattle.idl_tree.specs.Form.{Form, body_form, type_form, core_form, are_notes, named_form, has_single_maybes, body_depth, type_depth, greatest, is_struct, member_form, part_form}
use Rattle.idl_tree.proofs.Opened.{struct_opens, enum_opens, type_opens}
use Rattle.idl_rules.specs.Items.{Items, word, colon, left_square, right_square, arrow, notes_items, named_items, prefix_items, body_items, core_items, type_items, member_items, part_items}
use Rattle.idl_rules.specs.Canon.{Canon, Layout, Entry, line_end, note_lines, plain, behind, body_layout, core_layout, type_layout, body_step, core_step, field_step, type_step, bracket, named_entry, field_entry, prefix_text, part_layout, part_text, member_text, tail_text}
use Rattle.idl_rules.proofs.Folds.{prefixes_items, field_items, field_form, field_depth, core_depth, struct_items, enum_items, type_is, inline_items, name_items, struct_form, enum_form, type_form_is, inline_form, name_form, struct_depth, type_depth_is, inline_depth, bool_items, int_items, float_items, string_items, object_items}
use Rattle.idl_rules.proofs.OpenedCores.{bool_opens, int_opens, float_opens, string_opens, object_opens, name_opens, inline_opens}
use Rattle.idl_rules.proofs.Views.{body_view, core_view, a_struct, an_enum, a_bool, an_int, a_float, a_string, an_object, a_name, a_body}
use Rattle.idl_rules.proofs.Completes.{some_depth}
use Rattle.idl_print.proofs.Lexing.{Piece, Any, Calm, both, same_items, nothing, before_blanks, behind_blanks, word_piece, mark_piece, arrow_piece, is_spelt, Whole, begun}
use Rattle.idl_print.proofs.NameWords.{field_spelt, member_spelt, interface_spelt}
use Rattle.idl_print.proofs.Laid.{Laid, BodyLaid, EntryLaid, AllLaid, plain_laid, behind_laid, bracket_laid, chosen, notes_piece}

-- prefixes
square_piece : Piece Any (left_square ∷ []) (codes "[")
square_piece = mark_piece 91 refl refl refl refl

end_piece : Piece Any (right_square ∷ []) (codes "]")
end_piece = mark_piece 93 refl refl refl refl

prefix_piece : (prefix : Prefix) → Piece Any (prefix_items prefix) (prefix_text prefix)
prefix_piece Array = both Any Any (left_square ∷ []) (right_square ∷ []) (codes "[") (codes "]") square_piece end_piece (λ rest q. tt)
prefix_piece Map =
    both Any Any (left_square ∷ []) (word (codes "string") ∷ right_square ∷ []) (codes "[") (codes "string]") square_piece
    (both Calm Any (word (codes "string") ∷ []) (right_square ∷ []) (codes "string") (codes "]") (word_piece (codes "string") refl) end_piece (λ rest q. refl)) (λ rest q. tt)
prefix_piece Maybe = mark_piece 63 refl refl refl refl

prefixes_piece : (prefixes : List Prefix) → Piece Any (prefixes_items prefixes) (flat_map prefix_text prefixes)
prefixes_piece [] = nothing Any
prefixes_piece (prefix ∷ prefixes) =
    both Any Any (prefix_items prefix) (prefixes_items prefixes) (prefix_text prefix) (flat_map prefix_text prefixes) (prefix_piece prefix) (prefixes_piece prefixes) (λ rest q. tt)

colon_piece : Piece Any (colon ∷ []) (codes ": ")
colon_piece = before_blanks Any (colon ∷ []) (codes ":") (codes " ") (mark_piece 58 refl refl refl refl) refl (λ rest. tt)

-- the layouts, one level opened
struct_layout : (fields : List Field) (ending : List Bytes) → body_layout (Struct fields ending) ≡ bracket (map field_entry fields) ending
struct_layout fields ending = struct_opens Layout Layout Entry Layout body_step core_step field_step type_step fields ending

enum_layout : (names : List Named) (ending : List Bytes) → body_layout (Enum names ending) ≡ bracket (map named_entry names) ending
enum_layout names ending = enum_opens Layout Layout Entry Layout body_step core_step field_step type_step names ending

type_layout_is : (of : TypeRef) → type_layout of ≡ behind (flat_map prefix_text of.prefixes) (core_layout of.core)
type_layout_is of = type_opens Layout Layout Entry Layout body_step core_step field_step type_step of

-- a core that is a word
word_laid : (core : Core) (w : Bytes) → core_items core ≡ word w ∷ [] → core_layout core ≡ plain w → is_spelt w ≡ true → Laid (core_items core) (core_layout core)
word_laid core w items layout spelt =
    subst (λ (is : Lexemes). Laid is (core_layout core)) (sym items) (subst (λ (l : Layout). Laid (word w ∷ []) l) (sym layout) (plain_laid (word w ∷ []) w (word_piece w spelt)))

abbrev BodiesLaid : ℕ → Type 0
BodiesLaid n = (body : Body) → body_form body ≡ true → body_depth body ≤ n → BodyLaid (body_items body) (body_layout body)

named_laid : (named : Named) → named_form named ≡ true → EntryLaid (named_items named) (named_entry named)
named_laid named form =
    let p = and_parts (are_notes named.notes) (is_field_name named.name) form in
    record {
      inner = word named.name ∷ [];
      split = refl;
      good = p.0;
      text = plain_laid (word named.name ∷ []) named.name (word_piece named.name (field_spelt named.name p.1));
    }

names_laid : (names : List Named) → list_all named_form names ≡ true → AllLaid named_items named_entry names
names_laid [] form = tt
names_laid (named ∷ names) form = let p = and_parts (named_form named) (list_all named_form names) form in (named_laid named p.0, names_laid names p.1)

module _ (n : ℕ) (bodies : BodiesLaid n) where
  inline_laid : (body : Body) → core_form (Inline body) ≡ true → core_depth (Inline body) ≤ n → Laid (core_items (Inline body)) (core_layout (Inline body))
  inline_laid body form low =
      let depth = inline_depth body in
      let laid = (bodies body (sym (inline_form body) ∙ form) (omega arith)).laid in
      let layout = inline_opens Layout Layout Entry Layout body_step core_step field_step type_step body in
      subst (λ (is : Lexemes). Laid is (core_layout (Inline body))) (sym (inline_items body)) (subst (λ (l : Layout). Laid (body_items body) l) (sym layout) laid)

  abbrev CoreLaid : Core → Type 0
  CoreLaid core = core_form core ≡ true → core_depth core ≤ n → Laid (core_items core) (core_layout core)

  core_laid : (core : Core) → CoreLaid core
  core_laid core = elim (core_view core) [
    | a_bool is ↦ subst CoreLaid (sym is) (λ form low. word_laid BoolCore (codes "bool") bool_items (bool_opens Layout Layout Entry Layout body_step core_step field_step type_step) refl)
    | an_int is ↦ subst CoreLaid (sym is) (λ form low. word_laid Int (codes "int") int_items (int_opens Layout Layout Entry Layout body_step core_step field_step type_step) refl)
    | a_float is ↦ subst CoreLaid (sym is) (λ form low. word_laid Float (codes "float") float_items (float_opens Layout Layout Entry Layout body_step core_step field_step type_step) refl)
    | a_string is ↦ subst CoreLaid (sym is) (λ form low. word_laid Str (codes "string") string_items (string_opens Layout Layout Entry Layout body_step core_step field_step type_step) refl)
    | an_object is ↦ subst CoreLaid (sym is) (λ form low. word_laid Object (codes "object") object_items (object_opens Layout Layout Entry Layout body_step core_step field_step type_step) refl)
    | a_name name is ↦ subst CoreLaid (sym is) (λ form low. word_laid (Name name) name (name_items name)
        (name_opens Layout Layout Entry Layout body_step core_step field_step type_step name) (member_spelt name (sym (name_form name) ∙ form)))
    | a_body body is ↦ subst CoreLaid (sym is) (λ form low. inline_laid body form low)
  ]

  type_laid : (of : TypeRef) → type_form of ≡ true → type_depth of ≤ n → Laid (type_items of) (type_layout of)
  type_laid of form low =
      let depth = type_depth_is of in
      let p = and_parts (has_single_maybes of.prefixes) (core_form of.core) (sym (type_form_is of) ∙ form) in
      let laid = behind_laid (prefixes_items of.prefixes) (core_items of.core) (flat_map prefix_text of.prefixes) (core_layout of.core)
      (prefixes_piece of.prefixes) (core_laid of.core p.1 (omega arith)) in
      subst (λ (is : Lexemes). Laid is (type_layout of)) (sym (type_is of))
      (subst (λ (l : Layout). Laid (prefixes_items of.prefixes ++ core_items of.core) l) (sym (type_layout_is of)) laid)

  field_laid : (field : Field) → field_form field ≡ true → field_depth field ≤ n → EntryLaid (field_items field) (field_entry field)
  field_laid field form low =
      let p = and_parts (are_notes field.notes && is_field_name field.name) (type_form field.of) form in
      let q = and_parts (are_notes field.notes) (is_field_name field.name) p.0 in
      let begin = both Calm Any (word field.name ∷ []) (colon ∷ []) field.name (codes ": ") (word_piece field.name (field_spelt field.name q.1)) colon_piece (λ rest h. refl) in
      record {
        inner = word field.name ∷ colon ∷ type_items field.of;
        split = refl;
        good = q.0;
        text = behind_laid (word field.name ∷ colon ∷ []) (type_items field.of) (field.name ++ codes ": ") (type_layout field.of) begin (type_laid field.of p.1 low);
      }

  fields_laid : (fields : List Field) → list_all field_form fields ≡ true → greatest (map field_depth fields) ≤ n → AllLaid field_items field_entry fields
  fields_laid [] form low = tt
  fields_laid (field ∷ fields) form low =
      let p = and_parts (field_form field) (list_all field_form fields) form in
      (field_laid field p.0 (omega arith), fields_laid fields p.1 (omega arith))

abbrev OneLaid : ℕ → Body → Type 0
OneLaid n body = body_form body ≡ true → body_depth body ≤ n → BodyLaid (body_items body) (body_layout body)

body_from : (body : Body) (items : Lexemes) (layout : Layout) → body_items body ≡ items → body_layout body ≡ layout → BodyLaid items layout → BodyLaid (body_items body) (body_layout body)
body_from body items layout i l laid =
    subst (λ (is : Lexemes). BodyLaid is (body_layout body)) (sym i) (subst (λ (x : Layout). BodyLaid items x) (sym l) laid)

struct_laid : (n : ℕ) → BodiesLaid n → (fields : List Field) (ending : List Bytes) → OneLaid (suc n) (Struct fields ending)
struct_laid n bodies fields ending form low =
    let depth = struct_depth fields ending in
    let p = and_parts (list_all field_form fields) (are_notes ending) (sym (struct_form fields ending) ∙ form) in
    body_from (Struct fields ending) _ _ (struct_items fields ending) (struct_layout fields ending)
    (bracket_laid field_items field_entry fields ending (fields_laid n bodies fields p.0 (omega arith)) p.1)

enum_laid : (n : ℕ) (names : List Named) (ending : List Bytes) → OneLaid n (Enum names ending)
enum_laid n names ending form low =
    let p = and_parts (not (eqb (length names) 0) && list_all named_form names) (are_notes ending) (sym (enum_form names ending) ∙ form) in
    let q = and_parts (not (eqb (length names) 0)) (list_all named_form names) p.0 in
    body_from (Enum names ending) _ _ (enum_items names ending) (enum_layout names ending)
    (bracket_laid named_items named_entry names ending (names_laid names q.1) p.1)

bodies_laid : (n : ℕ) → BodiesLaid n
bodies_laid zero body form low = let some = some_depth body in absurd (omega arith)
bodies_laid (suc n) body form low =
    elim (body_view body) [
      | a_struct fields ending is ↦ subst (OneLaid (suc n)) (sym is) (struct_laid n (bodies_laid n) fields ending) form low
      | an_enum names ending is ↦ subst (OneLaid (suc n)) (sym is) (enum_laid (suc n) names ending) form low
    ]

body_laid : (body : Body) → body_form body ≡ true → BodyLaid (body_items body) (body_layout body)
body_laid body form = bodies_laid (body_depth body) body form (omega arith)

-- a keyword and a name
key_piece : (key text name : Bytes) → text ≡ key ++ codes " " → is_spelt key ≡ true → is_spelt name ≡ true → Piece Calm (word key ∷ word name ∷ []) (text ++ name)
key_piece key text name e k n =
    let first = before_blanks Calm (word key ∷ []) key (codes " ") (word_piece key k) refl (λ rest. refl) in
    subst (λ (t : Bytes). Piece Calm (word key ∷ word name ∷ []) (t ++ name)) (sym e)
    (both Any Calm (word key ∷ []) (word name ∷ []) (key ++ codes " ") name first (word_piece name n) (λ rest q. tt))

named_body : (key text name : Bytes) (body : Body) → text ≡ key ++ codes " " → is_spelt key ≡ true → is_spelt name ≡ true → body_form body ≡ true
    → Laid (word key ∷ word name ∷ body_items body) (behind (text ++ name ++ codes " ") (body_layout body))
named_body key text name body e k n form =
    behind_laid (word key ∷ word name ∷ []) (body_items body) (text ++ name ++ codes " ") (body_layout body)
    (before_blanks Calm (word key ∷ word name ∷ []) (text ++ name) (codes " ") (key_piece key text name e k n) refl (λ rest. refl))
    (body_laid body form).laid

-- a method with two bodies, each of which is laid out in one way
method_piece : (name a b : Bytes) (xs ys : Lexemes) → is_spelt name ≡ true → Piece Calm xs a → ((rest : Bytes) → Calm (a ++ rest)) → Piece Calm ys b
    → Piece Calm ((word (codes "method") ∷ word name ∷ xs) ++ (arrow ∷ ys)) (codes "method " ++ name ++ a ++ codes " -> " ++ b)
method_piece name a b xs ys n one begins other =
    let head = word (codes "method") ∷ word name ∷ [] in
    let text = codes "method " ++ name in
    let first = both Calm Calm head xs text a (key_piece (codes "method") (codes "method ") name refl refl n) one (λ rest q. begins rest) in
    let second = both Calm Any (head ++ xs) (arrow ∷ []) (text ++ a) (codes " -> ") first arrow_piece (λ rest q. refl) in
    same_items Calm (((head ++ xs) ++ arrow ∷ []) ++ ys) ((head ++ xs) ++ (arrow ∷ ys)) (text ++ a ++ codes " -> " ++ b) (append_assoc (head ++ xs) (arrow ∷ []) ys)
    (both Any Calm ((head ++ xs) ++ arrow ∷ []) ys (text ++ a ++ codes " -> ") b second other (λ rest q. tt))

part_laid : (name : Bytes) (of : Part) → is_member_name name ≡ true → part_form of ≡ true → Laid (part_items name of) (part_layout name of)
part_laid name (part.Shape body) named form = named_body (codes "type") (codes "type ") name body refl refl (member_spelt name named) form
part_laid name (part.Method input output) named form =
    let p = and_parts (is_struct input && body_form input && is_struct output) (body_form output) form in
    let q = and_parts (is_struct input && body_form input) (is_struct output) p.0 in
    let r = and_parts (is_struct input) (body_form input) q.0 in
    let one = body_laid input r.1 in
    let other = body_laid output p.1 in
    let spelt = member_spelt name named in
    record {
      flat = λ e. let h = or_parts (body_layout input).noted (body_layout output).noted e in
          method_piece name (body_layout input).flat (body_layout output).flat (body_items input) (body_items output) spelt (one.laid.flat h.0) one.flat_calm (other.laid.flat h.1);
      opened = λ indent. method_piece name ((body_layout input).opened indent) ((body_layout output).opened indent) (body_items input) (body_items output) spelt
          (one.laid.opened indent) (one.opened_calm indent) (other.laid.opened indent);
    }
part_laid name (part.Fault body) named form =
    let p = and_parts (is_struct body) (body_form body) form in
    named_body (codes "error") (codes "error ") name body refl refl (member_spelt name named) p.1

member_piece : (member : Member) → member_form member ≡ true → Piece Any (member_items member) (member_text member)
member_piece member form =
    let p = and_parts (are_notes member.notes && is_member_name member.name) (part_form member.part) form in
    let q = and_parts (are_notes member.notes) (is_member_name member.name) p.0 in
    let notes = notes_items member.notes in
    let items = part_items member.name member.part in
    let layout = part_layout member.name member.part in
    let lines = line_end ++ note_lines 0 member.notes in
    let begin = behind_blanks Any notes line_end (note_lines 0 member.notes) refl (notes_piece 0 member.notes q.0) in
    let middle = both Any Calm notes items lines (part_text layout) begin (chosen items layout 0 layout.flat (part_laid member.name member.part q.1 p.1)) (λ rest h. tt) in
    before_blanks Calm (notes ++ items) (lines ++ part_text layout) line_end middle refl (λ rest. refl)

members_piece : (members : List Member) → list_all member_form members ≡ true → Piece Any (flat_map member_items members) (flat_map member_text members)
members_piece [] form = nothing Any
members_piece (member ∷ members) form =
    let p = and_parts (member_form member) (list_all member_form members) form in
    both Any Any (member_items member) (flat_map member_items members) (member_text member) (flat_map member_text members)
    (member_piece member p.0) (members_piece members p.1) (λ rest q. tt)

tail_piece : (tail : List Bytes) → are_notes tail ≡ true → Piece Any (notes_items tail) (tail_text tail)
tail_piece [] h = nothing Any
tail_piece (text ∷ notes) h = behind_blanks Any (notes_items (text ∷ notes)) line_end (note_lines 0 (text ∷ notes)) refl (notes_piece 0 (text ∷ notes) h)

canon_split : (notes members tail : Lexemes) (one other : Lexeme)
    → ((notes ++ (one ∷ other ∷ [])) ++ members) ++ tail ≡ (notes ++ (one ∷ other ∷ members)) ++ tail
canon_split notes members tail one other = ap (λ (is : Lexemes). is ++ tail) (append_assoc notes (one ∷ other ∷ []) members)

canon_piece : (tree : Interface) → Form tree → Piece Any (Items tree) (Canon tree)
canon_piece tree form =
    let p = and_parts (are_notes tree.notes && is_interface_name tree.name && list_all member_form tree.members) (are_notes tree.tail) form in
    let q = and_parts (are_notes tree.notes && is_interface_name tree.name) (list_all member_form tree.members) p.0 in
    let r = and_parts (are_notes tree.notes) (is_interface_name tree.name) q.0 in
    let notes = notes_items tree.notes in
    let lines = note_lines 0 tree.notes in
    let head = word (codes "interface") ∷ word tree.name ∷ [] in
    let title = codes "interface " ++ tree.name in
    let members = flat_map member_items tree.members in
    let one = both Any Calm notes head lines title (notes_piece 0 tree.notes r.0) (key_piece (codes "interface") (codes "interface ") tree.name refl refl (interface_spelt tree.name r.1)) (λ rest h. tt) in
    let one' : Piece Calm (notes ++ head) (lines ++ codes "interface " ++ tree.name) =
    subst (λ (t : Bytes). Piece Calm (notes ++ head) t) (sym (append_assoc lines (codes "interface ") tree.name)) one in
    let start = lines ++ codes "interface " ++ tree.name in
    let two = before_blanks Calm (notes ++ head) start line_end one' refl (λ rest. refl) in
    let three = both Any Any (notes ++ head) members (start ++ line_end) (flat_map member_text tree.members) two (members_piece tree.members q.1) (λ rest h. tt) in
    same_items Any (((notes ++ head) ++ members) ++ notes_items tree.tail) (Items tree) (Canon tree) (canon_split notes members (notes_items tree.tail) (word (codes "interface")) (word tree.name))
    (both Any Any ((notes ++ head) ++ members) (notes_items tree.tail) (start ++ line_end ++ flat_map member_text tree.members) (tail_text tree.tail) three (tail_piece tree.tail p.1) (λ rest h. tt))

pub canon_lexes : (tree : Interface) → Form tree → Lex (Items tree) (Canon tree)
canon_lexes tree form =
    let piece = canon_piece tree form in
    let whole : Whole (Items tree ++ []) (Canon tree ++ []) = piece.lexes [] [] tt refl in
    let items : Whole (Items tree) (Canon tree) =
    subst (λ (is : Lexemes). Whole is (Canon tree)) (append-nil (Items tree)) (subst (λ (t : Bytes). Whole (Items tree ++ []) t) (append-nil (Canon tree)) whole) in
    (piece.utf8, begun (Items tree) (Canon tree) items)
