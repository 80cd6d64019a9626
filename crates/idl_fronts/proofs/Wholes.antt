-- the items of a tree in form, without notes, are a whole spelling
use Rattle.std.proofs.Common.{◌≡◌, ℕ, zero, suc, ◌≤◌, Bool, true, false, ◌&&◌, not, eqb, List, [], ◌∷◌, ◌++◌, map, length, codes, refl, sym, ap, subst, ◌∙◌, append_assoc, arith}
use Rattle.std.specs.List.{flat_map, list_all}
use Rattle.std.proofs.lemmas.List.{append-nil}
use Rattle.std.proofs.lemmas.Bool.{and_parts, true≢false, not-true}
use Rattle.idl_token.specs.Lex.{Bytes, Lexeme, Lexemes}
use Rattle.idl_token.specs.declared.tokens.ItemKind.TheVariants.{Word, Mark, Note}
use Rattle.idl_tree.specs.declared.trees.Interface.{Interface}
use Rattle.idl_tree.specs.declared.trees.Member.{Member}
use Rattle.idl_tree.specs.declared.trees.Named.{Named}
use Rattle.idl_tree.specs.declared.trees.Field.{Field}
use Rattle.idl_tree.specs.declared.trees.TypeRef.{TypeRef}
use Rattle.idl_tree.specs.declared.trees.Core.{Core}
use Rattle.idl_tree.specs.declared.trees.Body.{Body}
use Rattle.idl_tree.specs.declared.trees.Body.TheVariants.{Enum, outs-Enum}
use Rattle.idl_tree.specs.declared.trees.Part.{Part}
use Rattle.idl_tree.specs.declared.trees.Part.TheVariants as part
use Rattle.idl_tree.specs.declared.trees.Prefix.{Prefix}
use Rattle.idl_tree.specs.declared.trees.Prefix.TheVariants.{Array, Map, Maybe}
use Rattle.idl_tree.specs.Names.{is_interface_name, is_member_name, is_field_name}
use Rattle.idl_tree.specs.Form.{Form, body_form, type_form, core_form, are_notes, named_form, has_single_maybes, begins_with_maybe, body_depth, type_depth, greatest, is_struct, member_form, part_form}
use Rattle.idl_rules.specs.Items.{Items, word, mark, left_bracket, right_bracket, comma, colon, arrow, joined, notes_items, named_items, body_items, core_items, type_items, member_items, part_items}
use Rattle.idl_rules.specs.Grammar.{Grammar, one, in_row, many, a_type, plain, field, a_list, a_struct, body, member, definition, the_word, the_mark, a_name, Whole, an_item, a_row, on_left, on_right, no_turn, a_turn, the_type}
use Rattle.idl_rules.proofs.Folds.{prefixes_items, field_items, field_form, field_depth, core_depth, struct_items, enum_items, inline_items, name_items, type_is, struct_form, enum_form, inline_form, name_form, type_form_is, type_depth_is, inline_depth, struct_depth, bool_items, int_items, float_items, string_items, object_items}
use Rattle.idl_rules.proofs.Words.{bytes_same}
use Rattle.idl_rules.proofs.Views.{a_struct as struct_view, an_enum, body_view, a_bool, an_int, a_float, a_string, an_object, a_name as name_view, a_body, core_view}
use Rattle.idl_rules.proofs.Completes.{some_depth}
use Rattle.idl_fronts.specs.Bare.{without_notes}

pub bare_append : (front items : Lexemes) → without_notes (front ++ items) ≡ without_notes front ++ without_notes items
bare_append [] items = refl
bare_append ((Note, w) ∷ front) items = bare_append front items
bare_append ((Word, w) ∷ front) items = ap (λ (x : Lexemes). (Word, w) ∷ x) (bare_append front items)
bare_append ((Mark, w) ∷ front) items = ap (λ (x : Lexemes). (Mark, w) ∷ x) (bare_append front items)

pub bare_notes : (notes : List Bytes) → without_notes (notes_items notes) ≡ []
bare_notes [] = refl
bare_notes (text ∷ notes) = bare_notes notes

-- behind notes
pub bare_behind : (notes : List Bytes) (items : Lexemes) → without_notes (notes_items notes ++ items) ≡ without_notes items
bare_behind notes items = bare_append (notes_items notes) items ∙ ap (λ (x : Lexemes). x ++ without_notes items) (bare_notes notes)

the_word_whole : (w : Bytes) → Whole (the_word w) (word w ∷ [])
the_word_whole w = an_item (bytes_same w)

the_mark_whole : (w : Bytes) → Whole (the_mark w) (mark w ∷ [])
the_mark_whole w = an_item (bytes_same w)

name_whole : (form : Bytes → Bool) (w : Bytes) → form w ≡ true → Whole (a_name form) (word w ∷ [])
name_whole form w h = an_item h

abbrev pub W : Grammar → Lexemes → Type 0
W part items = Whole part (without_notes items)

-- behind one item
behind_item : (test : Lexeme → Bool) (next : Grammar) (item : Lexeme) (items : Lexemes) → Whole (one test) (item ∷ []) → Whole next items → Whole (in_row (one test) next) (item ∷ items)
behind_item test next item items w v = a_row w v refl

abbrev pub BodyWhole : ℕ → Type 0
BodyWhole n = (b : Body) → body_form b ≡ true → body_depth b ≤ n → W body (body_items b) × (is_struct b ≡ true → W a_struct (body_items b))

module _ (n : ℕ) (bodies : BodyWhole n) where
  core_whole : (core : Core) → core_form core ≡ true → core_depth core ≤ n → W plain (core_items core)
  core_whole core form low = elim (core_view core) [
    | a_bool e ↦ subst (λ (x : Lexemes). W plain x) (sym (ap core_items e ∙ bool_items)) (on_right (on_right (on_left (on_left (the_word_whole (codes "bool"))))))
    | an_int e ↦ subst (λ (x : Lexemes). W plain x) (sym (ap core_items e ∙ int_items)) (on_right (on_right (on_left (on_right (on_left (the_word_whole (codes "int")))))))
    | a_float e ↦ subst (λ (x : Lexemes). W plain x) (sym (ap core_items e ∙ float_items)) (on_right (on_right (on_left (on_right (on_right (on_left (the_word_whole (codes "float"))))))))
    | a_string e ↦ subst (λ (x : Lexemes). W plain x) (sym (ap core_items e ∙ string_items)) (on_right (on_right (on_left (on_right (on_right (on_right (on_left (the_word_whole (codes "string")))))))))
    | an_object e ↦ subst (λ (x : Lexemes). W plain x) (sym (ap core_items e ∙ object_items)) (on_right (on_right (on_left (on_right (on_right (on_right (on_right (the_word_whole (codes "object")))))))))
    | name_view name e ↦ subst (λ (x : Lexemes). W plain x) (sym (ap core_items e ∙ name_items name))
        (on_right (on_right (on_right (on_left (name_whole is_member_name name (sym (name_form name) ∙ ap core_form (sym e) ∙ form))))))
    | a_body b e ↦ subst (λ (x : Lexemes). W plain x) (sym (ap core_items e ∙ inline_items b))
        (on_right (on_right (on_right (on_right (bodies b (sym (inline_form b) ∙ ap core_form (sym e) ∙ form)
        (let same = inline_depth b in let d = ap core_depth e in omega arith)).0))))
  ]

  abbrev TypeWhole : List Prefix → Lexemes → Type 0
  TypeWhole prefixes core = W a_type (prefixes_items prefixes ++ core) × (begins_with_maybe prefixes ≡ false → W plain (prefixes_items prefixes ++ core))

  prefixes_whole : (prefixes : List Prefix) (core : Lexemes) → W plain core → has_single_maybes prefixes ≡ true → TypeWhole prefixes core
  prefixes_whole [] core w h = (the_type (on_left w), λ e. w)
  prefixes_whole (Array ∷ prefixes) core w h =
      let rest = prefixes_whole prefixes core w h in
      let it : W plain (prefixes_items (Array ∷ prefixes) ++ core) = on_left (a_row (the_mark_whole (codes "[")) (a_row (the_mark_whole (codes "]")) rest.0 refl) refl) in
      (the_type (on_left it), λ e. it)
  prefixes_whole (Map ∷ prefixes) core w h =
      let rest = prefixes_whole prefixes core w h in
      let it : W plain (prefixes_items (Map ∷ prefixes) ++ core) =
      on_right (on_left (a_row (the_mark_whole (codes "[")) (a_row (the_word_whole (codes "string")) (a_row (the_mark_whole (codes "]")) rest.0 refl) refl) refl)) in
      (the_type (on_left it), λ e. it)
  prefixes_whole (Maybe ∷ prefixes) core w h =
      let p = and_parts (not (begins_with_maybe prefixes)) (has_single_maybes prefixes) h in
      let rest = prefixes_whole prefixes core w p.1 in
      (the_type (on_right (a_row (the_mark_whole (codes "?")) (rest.1 (not-true _ p.0)) refl)), λ e. absurd (true≢false e))

  pub type_whole : (of : TypeRef) → type_form of ≡ true → type_depth of ≤ n → W a_type (type_items of)
  type_whole of form low =
      let p = and_parts (has_single_maybes of.prefixes) (core_form of.core) (sym (type_form_is of) ∙ form) in
      let depth = type_depth_is of in
      subst (λ (x : Lexemes). W a_type x) (sym (type_is of)) (prefixes_whole of.prefixes (core_items of.core) (core_whole of.core p.1 (omega arith)) p.0).0

  field_whole : (f : Field) → field_form f ≡ true → field_depth f ≤ n → W field (field_items f)
  field_whole f form low =
      let p = and_parts (are_notes f.notes && is_field_name f.name) (type_form f.of) form in
      let q = and_parts (are_notes f.notes) (is_field_name f.name) p.0 in
      subst (λ (x : Lexemes). Whole field x) (sym (bare_behind f.notes (word f.name ∷ colon ∷ type_items f.of)))
      (a_row (name_whole is_field_name f.name q.1) (a_row (the_mark_whole (codes ":")) (type_whole f.of p.1 low) refl) refl)

  fields_whole : (fields : List Field) → list_all field_form fields ≡ true → greatest (map field_depth fields) ≤ n
      → W (many (in_row (the_mark (codes ",")) field)) (flat_map (λ next. comma ∷ next) (map field_items fields))
  fields_whole [] form low = no_turn
  fields_whole (f ∷ fields) form low =
      let p = and_parts (field_form f) (list_all field_form fields) form in
      a_turn (a_row (the_mark_whole (codes ",")) (field_whole f p.0 (omega arith)) refl) (fields_whole fields p.1 (omega arith))
      (bare_append (comma ∷ field_items f) (flat_map (λ next. comma ∷ next) (map field_items fields)))

bracket_split : (first rest : Lexemes) (ending : List Bytes)
    → without_notes ((first ++ rest) ++ notes_items ending ++ right_bracket ∷ []) ≡ without_notes first ++ (without_notes rest ++ right_bracket ∷ [])
bracket_split first rest ending =
    ap without_notes (append_assoc (first ++ rest) (notes_items ending) (right_bracket ∷ []))
    ∙ bare_append (first ++ rest) (notes_items ending ++ right_bracket ∷ [])
    ∙ ap (λ (x : Lexemes). without_notes (first ++ rest) ++ x) (bare_behind ending (right_bracket ∷ []))
    ∙ ap (λ (x : Lexemes). x ++ right_bracket ∷ []) (bare_append first rest)
    ∙ append_assoc (without_notes first) (without_notes rest) (right_bracket ∷ [])

-- a bracket with entries
list_whole : (entry : Grammar) (first rest : Lexemes) (ending : List Bytes) → W entry first → W (many (in_row (the_mark (codes ",")) entry)) rest
    → W (a_list entry) (left_bracket ∷ (first ++ rest) ++ notes_items ending ++ right_bracket ∷ [])
list_whole entry first rest ending w v =
    a_row (the_mark_whole (codes "(")) (a_row w (a_row v (the_mark_whole (codes ")")) refl) (bracket_split first rest ending)) refl

empty_whole : (ending : List Bytes) → W a_struct (left_bracket ∷ [] ++ notes_items ending ++ right_bracket ∷ [])
empty_whole ending = on_left (a_row (the_mark_whole (codes "(")) (the_mark_whole (codes ")")) (ap (λ (x : Lexemes). left_bracket ∷ x) (bare_behind ending (right_bracket ∷ []))))

struct_whole : (n : ℕ) → BodyWhole n → (fields : List Field) (ending : List Bytes) → list_all field_form fields ≡ true → greatest (map field_depth fields) ≤ n
    → W a_struct (left_bracket ∷ joined (map field_items fields) ++ notes_items ending ++ right_bracket ∷ [])
struct_whole n bodies [] ending form low = empty_whole ending
struct_whole n bodies (f ∷ fields) ending form low =
    let p = and_parts (field_form f) (list_all field_form fields) form in
    on_right (list_whole field (field_items f) (flat_map (λ next. comma ∷ next) (map field_items fields)) ending (field_whole n bodies f p.0 (omega arith)) (fields_whole n bodies fields p.1 (omega arith)))

named_whole : (named : Named) → named_form named ≡ true → W (a_name is_field_name) (named_items named)
named_whole named form =
    let p = and_parts (are_notes named.notes) (is_field_name named.name) form in
    subst (λ (x : Lexemes). Whole (a_name is_field_name) x) (sym (bare_behind named.notes (word named.name ∷ []))) (name_whole is_field_name named.name p.1)

names_whole : (names : List Named) → list_all named_form names ≡ true → W (many (in_row (the_mark (codes ",")) (a_name is_field_name))) (flat_map (λ next. comma ∷ next) (map named_items names))
names_whole [] form = no_turn
names_whole (named ∷ names) form =
    let p = and_parts (named_form named) (list_all named_form names) form in
    a_turn (a_row (the_mark_whole (codes ",")) (named_whole named p.0) refl) (names_whole names p.1) (bare_append (comma ∷ named_items named) (flat_map (λ next. comma ∷ next) (map named_items names)))

enum_whole : (names : List Named) (ending : List Bytes) → not (eqb (length names) 0) ≡ true → list_all named_form names ≡ true
    → W body (left_bracket ∷ joined (map named_items names) ++ notes_items ending ++ right_bracket ∷ [])
enum_whole [] ending some form = absurd (true≢false (sym some))
enum_whole (named ∷ names) ending some form =
    let p = and_parts (named_form named) (list_all named_form names) form in
    on_right (list_whole (a_name is_field_name) (named_items named) (flat_map (λ next. comma ∷ next) (map named_items names)) ending (named_whole named p.0) (names_whole names p.1))

pub bodies_whole : (n : ℕ) → BodyWhole n
bodies_whole zero b form low = let some = some_depth b in absurd (omega arith)
bodies_whole (suc n) b form low = elim (body_view b) [
  | struct_view fields ending e ↦ (
      let depth = struct_depth fields ending in
      let same = ap body_depth e in
      let p = and_parts (list_all field_form fields) (are_notes ending) (sym (struct_form fields ending) ∙ ap body_form (sym e) ∙ form) in
      let w = subst (λ (x : Lexemes). W a_struct x) (sym (ap body_items e ∙ struct_items fields ending)) (struct_whole n (bodies_whole n) fields ending p.0 (omega arith)) in
      (on_left w, λ struct. w))
  | an_enum names ending e ↦ (
      let p = and_parts (not (eqb (length names) 0) && list_all named_form names) (are_notes ending) (sym (enum_form names ending) ∙ ap body_form (sym e) ∙ form) in
      let q = and_parts (not (eqb (length names) 0)) (list_all named_form names) p.0 in (
        subst (λ (x : Lexemes). W body x) (sym (ap body_items e ∙ enum_items names ending)) (enum_whole names ending q.0 q.1),
        λ struct. (let no : is_struct (Enum names ending) ≡ false = rw outs-Enum refl in absurd (true≢false (sym struct ∙ ap is_struct e ∙ no))),
      ))
]

part_whole : (name : Bytes) (of : Part) → is_member_name name ≡ true → part_form of ≡ true → W member (part_items name of)
part_whole name (part.Shape b) named form =
    on_left (a_row (the_word_whole (codes "type")) (a_row (name_whole is_member_name name named) (bodies_whole (body_depth b) b form (omega arith)).0 refl) refl)
part_whole name (part.Method input output) named form =
    let p = and_parts (is_struct input && body_form input && is_struct output) (body_form output) form in
    let q = and_parts (is_struct input && body_form input) (is_struct output) p.0 in
    let r = and_parts (is_struct input) (body_form input) q.0 in
    let first = (bodies_whole (body_depth input) input r.1 (omega arith)).1 r.0 in
    let second = (bodies_whole (body_depth output) output p.1 (omega arith)).1 q.1 in
    on_right (on_left (a_row (the_word_whole (codes "method")) (a_row (name_whole is_member_name name named)
    (a_row first (a_row (the_mark_whole (codes "->")) second refl) (bare_append (body_items input) (arrow ∷ body_items output))) refl) refl))
part_whole name (part.Fault b) named form =
    let p = and_parts (is_struct b) (body_form b) form in
    on_right (on_right (a_row (the_word_whole (codes "error")) (a_row (name_whole is_member_name name named) ((bodies_whole (body_depth b) b p.1 (omega arith)).1 p.0) refl) refl))

members_whole : (members : List Member) → list_all member_form members ≡ true → W (many member) (flat_map member_items members)
members_whole [] form = no_turn
members_whole (m ∷ members) form =
    let p = and_parts (member_form m) (list_all member_form members) form in
    let q = and_parts (are_notes m.notes && is_member_name m.name) (part_form m.part) p.0 in
    let r = and_parts (are_notes m.notes) (is_member_name m.name) q.0 in
    a_turn (subst (λ (x : Lexemes). Whole member x) (sym (bare_behind m.notes (part_items m.name m.part))) (part_whole m.name m.part r.1 q.1)) (members_whole members p.1)
    (bare_append (member_items m) (flat_map member_items members))

pub definition_whole : (tree : Interface) → Form tree → W definition (Items tree)
definition_whole tree form =
    let p = and_parts (are_notes tree.notes && is_interface_name tree.name && list_all member_form tree.members) (are_notes tree.tail) form in
    let q = and_parts (are_notes tree.notes && is_interface_name tree.name) (list_all member_form tree.members) p.0 in
    let r = and_parts (are_notes tree.notes) (is_interface_name tree.name) q.0 in
    let members = flat_map member_items tree.members in
    let same : without_notes (Items tree) ≡ word (codes "interface") ∷ word tree.name ∷ without_notes members =
    bare_append (notes_items tree.notes ++ word (codes "interface") ∷ word tree.name ∷ members) (notes_items tree.tail)
    ∙ ap (λ (x : Lexemes). without_notes (notes_items tree.notes ++ word (codes "interface") ∷ word tree.name ∷ members) ++ x) (bare_notes tree.tail)
    ∙ append-nil (without_notes (notes_items tree.notes ++ word (codes "interface") ∷ word tree.name ∷ members))
    ∙ bare_behind tree.notes (word (codes "interface") ∷ word tree.name ∷ members) in
    subst (λ (x : Lexemes). Whole definition x) (sym same)
    (a_row (the_word_whole (codes "interface")) (a_row (name_whole is_interface_name tree.name r.1) (members_whole tree.members q.1) refl) refl)
