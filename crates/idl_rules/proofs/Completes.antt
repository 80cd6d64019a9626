-- the items of a tree in form are read, where the brackets are within the limit
use Rattle.std.proofs.Common.{◌≡◌, ℕ, zero, suc, ◌+◌, ◌<◌, ◌≤◌, Bool, true, false, ◌&&◌, not, cond, eqb, List, [], ◌∷◌, ◌++◌, Option, Some, map, length, codes, refl, sym, ap, subst, ◌∙◌, append_assoc, arith, inl, inr}
use Rattle.std.specs.List.{flat_map, list_all}
use Rattle.std.specs.Str.{bytes_eq}
use Rattle.std.proofs.lemmas.List.{append-nil}
use Rattle.std.proofs.lemmas.Bool.{and_parts, cond-true, cond-false, true≢false, lt-ltb}
use Rattle.idl_token.specs.Lex.{Bytes, Lexeme, Lexemes}
use Rattle.idl_tree.specs.declared.trees.Named.{Named}
use Rattle.idl_tree.specs.declared.trees.Field.{Field}
use Rattle.idl_tree.specs.declared.trees.Core.{Core}
use Rattle.idl_tree.specs.declared.trees.Prefix.{Prefix}
use Rattle.idl_tree.specs.declared.trees.Prefix.TheVariants.{Array, Map, Maybe}
use Rattle.idl_tree.specs.declared.trees.Body.{Body}
use Rattle.idl_tree.specs.declared.trees.Body.TheVariants.{Struct, Enum, Bool as BoolCore, Int, Float, Str, Object, Name, Inline, outs-Enum}
use Rattle.idl_tree.specs.Names.{is_member_name, is_field_name}
use Rattle.idl_tree.specs.Form.{body_form, type_form, core_form, are_notes, named_form, has_single_maybes, body_depth, type_depth, greatest, is_struct}
use Rattle.idl_rules.specs.Items.{word, left_bracket, right_bracket, comma, colon, joined, notes_items, named_items, body_items, core_items, type_items}
use Rattle.idl_rules.specs.Reading.{Going, Beyond, going_if, closed, opened, with_prefix, with_core, takes_enum, ends_with_maybe, core_of, cored, inside_next, close_next, some_if, run, then_read}
use Rattle.idl_rules.specs.declared.states.State.{State}
use Rattle.idl_rules.specs.declared.states.State.TheVariants.{Inside}
use Rattle.idl_rules.specs.declared.states.Head.{Head}
use Rattle.idl_rules.specs.declared.states.Begun.{Begun}
use Rattle.idl_rules.specs.declared.states.Level.{Level}
use Rattle.idl_rules.specs.declared.states.Kind.{Kind}
use Rattle.idl_rules.specs.declared.states.Spot.{Spot}
use Rattle.idl_rules.specs.declared.states.Spot.TheVariants as spot
use Rattle.idl_rules.proofs.Folds.{prefixes_items, field_items, field_form, field_depth, core_depth, struct_items, enum_items, inline_items, name_items, type_is, struct_form, enum_form, inline_form, name_form, type_form_is, type_depth_is, inline_depth, struct_depth, enum_depth, bool_items, int_items, float_items, string_items, object_items}
use Rattle.idl_rules.proofs.Words.{same_bytes}
use Rattle.idl_rules.proofs.Views.{a_struct, an_enum, body_view, a_bool, an_int, a_float, a_string, an_object, a_name, a_body, core_view}
use Rattle.idl_rules.proofs.Steps.{Fits}
use Rattle.idl_rules.proofs.Runs.{run_notes, by_bool}

-- a body begins with its bracket
pub inner_of : (body : Body) → (inner : Lexemes) × (body_items body ≡ left_bracket ∷ inner)
inner_of body = elim (body_view body) [
  | a_struct fields ending e ↦ (joined (map field_items fields) ++ notes_items ending ++ right_bracket ∷ [], ap body_items e ∙ struct_items fields ending)
  | an_enum names ending e ↦ (joined (map named_items names) ++ notes_items ending ++ right_bracket ∷ [], ap body_items e ∙ enum_items names ending)
]

pub some_depth : (body : Body) → 1 ≤ body_depth body
some_depth body = elim (body_view body) [
  | a_struct fields ending e ↦ (let d = struct_depth fields ending in rw (e, d) (omega arith))
  | an_enum names ending e ↦ (let d = enum_depth names ending in rw (e, d) (omega arith))
]

not_word : (w v : Bytes) → is_member_name w ≡ true → is_member_name v ≡ false → bytes_eq w v ≡ false
not_word w v named other =
    by_bool (λ (b : Bool). bytes_eq w v ≡ b → b ≡ false) (bytes_eq w v)
    (λ e again. absurd (true≢false (sym named ∙ ap is_member_name (same_bytes w v e) ∙ other))) (λ e again. refl) refl

-- a member's name is no other type
pub core_of_name : (w : Bytes) → is_member_name w ≡ true → core_of w ≡ Some (Name w)
core_of_name w named =
    cond-false (bytes_eq w (codes "bool")) _ _ (not_word w (codes "bool") named refl)
    ∙ cond-false (bytes_eq w (codes "int")) _ _ (not_word w (codes "int") named refl)
    ∙ cond-false (bytes_eq w (codes "float")) _ _ (not_word w (codes "float") named refl)
    ∙ cond-false (bytes_eq w (codes "string")) _ _ (not_word w (codes "string") named refl)
    ∙ cond-false (bytes_eq w (codes "object")) _ _ (not_word w (codes "object") named refl)
    ∙ cond-true (is_member_name w) _ _ named

-- before a `?` stands no other
single_before : (prefixes more : List Prefix) → has_single_maybes (prefixes ++ Maybe ∷ more) ≡ true → ends_with_maybe prefixes ≡ false
single_before [] more h = refl
single_before (Array ∷ prefixes) more h = single_before prefixes more h
single_before (Map ∷ prefixes) more h = single_before prefixes more h
single_before (Maybe ∷ []) more h = absurd (true≢false (sym h))
single_before (Maybe ∷ Array ∷ prefixes) more h = single_before (Array ∷ prefixes) more h
single_before (Maybe ∷ Map ∷ prefixes) more h = single_before (Map ∷ prefixes) more h
single_before (Maybe ∷ Maybe ∷ prefixes) more h = absurd (true≢false (sym h))

pub going_fits : (limit : ℕ) (test : Bool) (state : State) (items : Lexemes) → test ≡ true
    → then_read (going_if test state) (λ next. run limit next [] items) ≡ run limit state [] items
going_fits limit test state items e = ap (λ (b : Bool). then_read (going_if b state) (λ next. run limit next [] items)) e

pub inside_fits : (limit : ℕ) (head : Head) (member : Begun) (levels : List Level) (test : Bool) (at : Spot) (items : Lexemes) → test ≡ true
    → then_read (inside_next head member levels (some_if test at)) (λ next. run limit next [] items) ≡ run limit (Inside head member levels at) [] items
inside_fits limit head member levels test at items e = ap (λ (b : Bool). then_read (inside_next head member levels (some_if b at)) (λ next. run limit next [] items)) e

module _ (limit : ℕ) (head : Head) (member : Begun) where
  -- an opening bracket
  pub opened_runs : (levels : List Level) (items : Lexemes) → length levels < limit
      → then_read (opened limit head member levels) (λ next. run limit next [] items) ≡ run limit (Inside head member levels spot.First) [] items
  opened_runs levels items below =
      ap (λ (b : Bool). then_read (cond b (Going (Inside head member levels spot.First)) Beyond) (λ next. run limit next [] items)) (lt-ltb (length levels) limit below)

  abbrev pub BodyRuns : ℕ → Type 0
  BodyRuns n = (body : Body) (levels : List Level) (inner items : Lexemes) → body_form body ≡ true → body_depth body ≤ n → Fits member.kind levels body
      → body_depth body + length levels ≤ limit → body_items body ≡ left_bracket ∷ inner
      → run limit (Inside head member levels spot.First) [] (inner ++ items) ≡ run limit (closed head member levels body) [] items

  prefixes_runs : (levels : List Level) (level : Level) (prefixes : List Prefix) (items : Lexemes) → has_single_maybes (level.prefixes ++ prefixes) ≡ true
      → run limit (Inside head member levels (spot.Prefixes level)) [] (prefixes_items prefixes ++ items)
      ≡ run limit (Inside head member levels (spot.Prefixes (record { fields = level.fields; notes = level.notes; name = level.name; prefixes = level.prefixes ++ prefixes }))) [] items
  prefixes_runs levels level [] items h =
      ap (λ (ps : List Prefix). run limit (Inside head member levels (spot.Prefixes (record { fields = level.fields; notes = level.notes; name = level.name; prefixes = ps }))) [] items) (sym (append-nil level.prefixes))
  prefixes_runs levels level (Array ∷ prefixes) items h =
      let assoc = append_assoc level.prefixes (Array ∷ []) prefixes in
      prefixes_runs levels (with_prefix level Array) prefixes items (ap has_single_maybes assoc ∙ h)
      ∙ ap (λ (ps : List Prefix). run limit (Inside head member levels (spot.Prefixes (record { fields = level.fields; notes = level.notes; name = level.name; prefixes = ps }))) [] items) assoc
  prefixes_runs levels level (Map ∷ prefixes) items h =
      let assoc = append_assoc level.prefixes (Map ∷ []) prefixes in
      prefixes_runs levels (with_prefix level Map) prefixes items (ap has_single_maybes assoc ∙ h)
      ∙ ap (λ (ps : List Prefix). run limit (Inside head member levels (spot.Prefixes (record { fields = level.fields; notes = level.notes; name = level.name; prefixes = ps }))) [] items) assoc
  prefixes_runs levels level (Maybe ∷ prefixes) items h =
      let assoc = append_assoc level.prefixes (Maybe ∷ []) prefixes in
      inside_fits limit head member levels (not (ends_with_maybe level.prefixes)) (spot.Prefixes (with_prefix level Maybe)) (prefixes_items prefixes ++ items)
      (ap not (single_before level.prefixes prefixes h))
      ∙ prefixes_runs levels (with_prefix level Maybe) prefixes items (ap has_single_maybes assoc ∙ h)
      ∙ ap (λ (ps : List Prefix). run limit (Inside head member levels (spot.Prefixes (record { fields = level.fields; notes = level.notes; name = level.name; prefixes = ps }))) [] items) assoc

  module _ (n : ℕ) (bodies : BodyRuns n) (levels : List Level) where
    abbrev CoreRuns : Level → Core → Type 0
    CoreRuns level core = (items : Lexemes) → core_form core ≡ true → core_depth core ≤ n → core_depth core + suc (length levels) ≤ limit
        → run limit (Inside head member levels (spot.Prefixes level)) [] (core_items core ++ items)
        ≡ run limit (Inside head member levels (spot.Fields (with_core level core))) [] items

    one_word : (level : Level) (core : Core) (w : Bytes) → core_items core ≡ word w ∷ [] → core_of w ≡ Some core → CoreRuns level core
    one_word level core w is found items form low within =
        ap (λ (x : Lexemes). run limit (Inside head member levels (spot.Prefixes level)) [] (x ++ items)) is
        ∙ ap (λ (x : Option Core). then_read (inside_next head member levels (cored level x)) (λ next. run limit next [] items)) found

    body_core : (level : Level) (body : Body) → CoreRuns level (Inline body)
    body_core level body items form low within =
        let inner = inner_of body in
        let depth = inline_depth body in
        let some = some_depth body in
        ap (λ (x : Lexemes). run limit (Inside head member levels (spot.Prefixes level)) [] (x ++ items)) (inline_items body ∙ inner.1)
        ∙ opened_runs (level ∷ levels) (inner.0 ++ items) (omega arith)
        ∙ bodies body (level ∷ levels) inner.0 items (sym (inline_form body) ∙ form) (omega arith) (inl refl) (omega arith) inner.1

    core_runs : (level : Level) (core : Core) → CoreRuns level core
    core_runs level core = elim (core_view core) [
      | a_bool e ↦ subst (CoreRuns level) (sym e) (one_word level BoolCore (codes "bool") bool_items refl)
      | an_int e ↦ subst (CoreRuns level) (sym e) (one_word level Int (codes "int") int_items refl)
      | a_float e ↦ subst (CoreRuns level) (sym e) (one_word level Float (codes "float") float_items refl)
      | a_string e ↦ subst (CoreRuns level) (sym e) (one_word level Str (codes "string") string_items refl)
      | an_object e ↦ subst (CoreRuns level) (sym e) (one_word level Object (codes "object") object_items refl)
      | a_name name e ↦ subst (CoreRuns level) (sym e) (λ items form low within.
          one_word level (Name name) name (name_items name) (core_of_name name (sym (name_form name) ∙ form)) items form low within)
      | a_body body e ↦ subst (CoreRuns level) (sym e) (body_core level body)
    ]

    -- a type, behind the colon of a field
    pub type_runs : (fields : List Field) (field : Field) (items : Lexemes) → type_form field.of ≡ true → type_depth field.of ≤ n → type_depth field.of + suc (length levels) ≤ limit
        → run limit (Inside head member levels (spot.Prefixes (record { fields = fields; notes = field.notes; name = field.name; prefixes = [] }))) [] (type_items field.of ++ items)
        ≡ run limit (Inside head member levels (spot.Fields (fields ++ field ∷ []))) [] items
    type_runs fields field items form low within =
        let p = and_parts (has_single_maybes field.of.prefixes) (core_form field.of.core) (sym (type_form_is field.of) ∙ form) in
        let depth = type_depth_is field.of in
        let level : Level = record { fields = fields; notes = field.notes; name = field.name; prefixes = [] } in
        let full : Level = record { fields = fields; notes = field.notes; name = field.name; prefixes = field.of.prefixes } in
        ap (λ (x : Lexemes). run limit (Inside head member levels (spot.Prefixes level)) [] x)
        (ap (λ (x : Lexemes). x ++ items) (type_is field.of) ∙ append_assoc (prefixes_items field.of.prefixes) (core_items field.of.core) items)
        ∙ prefixes_runs levels level field.of.prefixes (core_items field.of.core ++ items) p.0
        ∙ core_runs full field.of.core items p.1 (omega arith) (omega arith)

    -- a whole field, with its notes
    field_sound : (field : Field) → field_form field ≡ true → (are_notes field.notes ≡ true) × (is_field_name field.name ≡ true) × (type_form field.of ≡ true)
    field_sound field form =
        let p = and_parts (are_notes field.notes && is_field_name field.name) (type_form field.of) form in
        let q = and_parts (are_notes field.notes) (is_field_name field.name) p.0 in
        (q.0, q.1, p.1)

    field_split : (a b : Lexemes) (item next : Lexeme) (items : Lexemes) → (a ++ item ∷ next ∷ b) ++ items ≡ a ++ item ∷ next ∷ (b ++ items)
    field_split a b item next items = append_assoc a (item ∷ next ∷ b) items

    first_field : (field : Field) (items : Lexemes) → field_form field ≡ true → field_depth field ≤ n → field_depth field + suc (length levels) ≤ limit
        → run limit (Inside head member levels spot.First) [] (field_items field ++ items) ≡ run limit (Inside head member levels (spot.Fields (field ∷ []))) [] items
    first_field field items form low within =
        let s = field_sound field form in
        ap (λ (x : Lexemes). run limit (Inside head member levels spot.First) [] x) (field_split (notes_items field.notes) (type_items field.of) (word field.name) colon items)
        ∙ run_notes limit (Inside head member levels spot.First) [] field.notes (word field.name ∷ colon ∷ (type_items field.of ++ items)) s.0
        ∙ inside_fits limit head member levels (is_field_name field.name) (spot.Only (record { notes = field.notes; name = field.name })) (colon ∷ (type_items field.of ++ items)) s.1
        ∙ type_runs [] field items s.2 low within

    next_field : (fields : List Field) (field : Field) (items : Lexemes) → field_form field ≡ true → field_depth field ≤ n → field_depth field + suc (length levels) ≤ limit
        → run limit (Inside head member levels (spot.Fields fields)) [] ((comma ∷ field_items field) ++ items) ≡ run limit (Inside head member levels (spot.Fields (fields ++ field ∷ []))) [] items
    next_field fields field items form low within =
        let s = field_sound field form in
        ap (λ (x : Lexemes). run limit (Inside head member levels (spot.MoreFields fields)) [] x) (field_split (notes_items field.notes) (type_items field.of) (word field.name) colon items)
        ∙ run_notes limit (Inside head member levels (spot.MoreFields fields)) [] field.notes (word field.name ∷ colon ∷ (type_items field.of ++ items)) s.0
        ∙ inside_fits limit head member levels (is_field_name field.name) (spot.Field (record { fields = fields; notes = field.notes; name = field.name; prefixes = [] })) (colon ∷ (type_items field.of ++ items)) s.1
        ∙ type_runs fields field items s.2 low within

    fields_run : (fields more : List Field) (items : Lexemes) → list_all field_form more ≡ true → greatest (map field_depth more) ≤ n
        → greatest (map field_depth more) + suc (length levels) ≤ limit
        → run limit (Inside head member levels (spot.Fields fields)) [] (flat_map (λ next. comma ∷ next) (map field_items more) ++ items)
        ≡ run limit (Inside head member levels (spot.Fields (fields ++ more))) [] items
    fields_run fields [] items form low within =
        ap (λ (x : List Field). run limit (Inside head member levels (spot.Fields x)) [] items) (sym (append-nil fields))
    fields_run fields (field ∷ more) items form low within =
        let p = and_parts (field_form field) (list_all field_form more) form in
        ap (λ (x : Lexemes). run limit (Inside head member levels (spot.Fields fields)) [] x)
        (append_assoc (comma ∷ field_items field) (flat_map (λ next. comma ∷ next) (map field_items more)) items)
        ∙ next_field fields field (flat_map (λ next. comma ∷ next) (map field_items more) ++ items) p.0 (omega arith) (omega arith)
        ∙ fields_run (fields ++ field ∷ []) more items p.1 (omega arith) (omega arith)
        ∙ ap (λ (x : List Field). run limit (Inside head member levels (spot.Fields x)) [] items) (append_assoc fields (field ∷ []) more)

    -- the end of a bracket
    end_split : (entries notes : Lexemes) (items : Lexemes) → (entries ++ notes ++ right_bracket ∷ []) ++ items ≡ entries ++ (notes ++ right_bracket ∷ items)
    end_split entries notes items = simp append_assoc

    struct_runs : (fields : List Field) (ending : List Bytes) (items : Lexemes) → list_all field_form fields ≡ true → are_notes ending ≡ true
        → greatest (map field_depth fields) ≤ n → greatest (map field_depth fields) + suc (length levels) ≤ limit
        → run limit (Inside head member levels spot.First) [] ((joined (map field_items fields) ++ notes_items ending ++ right_bracket ∷ []) ++ items)
        ≡ run limit (closed head member levels (Struct fields ending)) [] items
    struct_runs [] ending items form noted low within =
        ap (λ (x : Lexemes). run limit (Inside head member levels spot.First) [] x) (end_split [] (notes_items ending) items)
        ∙ run_notes limit (Inside head member levels spot.First) [] ending (right_bracket ∷ items) noted
    struct_runs (field ∷ fields) ending items form noted low within =
        let p = and_parts (field_form field) (list_all field_form fields) form in
        let rest = flat_map (λ (next : Lexemes). comma ∷ next) (map field_items fields) in
        ap (λ (x : Lexemes). run limit (Inside head member levels spot.First) [] x)
        (end_split (field_items field ++ rest) (notes_items ending) items ∙ append_assoc (field_items field) rest (notes_items ending ++ right_bracket ∷ items))
        ∙ first_field field (rest ++ (notes_items ending ++ right_bracket ∷ items)) p.0 (omega arith) (omega arith)
        ∙ fields_run (field ∷ []) fields (notes_items ending ++ right_bracket ∷ items) p.1 (omega arith) (omega arith)
        ∙ run_notes limit (Inside head member levels (spot.Fields (field ∷ fields))) [] ending (right_bracket ∷ items) noted

  module _ (levels : List Level) where
    named_sound : (named : Named) → named_form named ≡ true → (are_notes named.notes ≡ true) × (is_field_name named.name ≡ true)
    named_sound named form = and_parts (are_notes named.notes) (is_field_name named.name) form

    first_name : (named : Named) (items : Lexemes) → named_form named ≡ true
        → run limit (Inside head member levels spot.First) [] (named_items named ++ items) ≡ run limit (Inside head member levels (spot.Only named)) [] items
    first_name named items form =
        let s = named_sound named form in
        ap (λ (x : Lexemes). run limit (Inside head member levels spot.First) [] x) (append_assoc (notes_items named.notes) (word named.name ∷ []) items)
        ∙ run_notes limit (Inside head member levels spot.First) [] named.notes (word named.name ∷ items) s.0
        ∙ inside_fits limit head member levels (is_field_name named.name) (spot.Only named) items s.1

    next_name : (names : List Named) (named : Named) (items : Lexemes) → named_form named ≡ true
        → run limit (Inside head member levels (spot.MoreNames names)) [] (named_items named ++ items) ≡ run limit (Inside head member levels (spot.Names (names ++ named ∷ []))) [] items
    next_name names named items form =
        let s = named_sound named form in
        ap (λ (x : Lexemes). run limit (Inside head member levels (spot.MoreNames names)) [] x) (append_assoc (notes_items named.notes) (word named.name ∷ []) items)
        ∙ run_notes limit (Inside head member levels (spot.MoreNames names)) [] named.notes (word named.name ∷ items) s.0
        ∙ inside_fits limit head member levels (is_field_name named.name) (spot.Names (names ++ named ∷ [])) items s.1

    names_run : (names more : List Named) (items : Lexemes) → list_all named_form more ≡ true
        → run limit (Inside head member levels (spot.Names names)) [] (flat_map (λ next. comma ∷ next) (map named_items more) ++ items)
        ≡ run limit (Inside head member levels (spot.Names (names ++ more))) [] items
    names_run names [] items form =
        ap (λ (x : List Named). run limit (Inside head member levels (spot.Names x)) [] items) (sym (append-nil names))
    names_run names (named ∷ more) items form =
        let p = and_parts (named_form named) (list_all named_form more) form in
        let rest = flat_map (λ (next : Lexemes). comma ∷ next) (map named_items more) in
        ap (λ (x : Lexemes). run limit (Inside head member levels (spot.MoreNames names)) [] x) (append_assoc (named_items named) rest items)
        ∙ next_name names named (rest ++ items) p.0
        ∙ names_run (names ++ named ∷ []) more items p.1
        ∙ ap (λ (x : List Named). run limit (Inside head member levels (spot.Names x)) [] items) (append_assoc names (named ∷ []) more)

    ends_split : (entries notes : Lexemes) (items : Lexemes) → (entries ++ notes ++ right_bracket ∷ []) ++ items ≡ entries ++ (notes ++ right_bracket ∷ items)
    ends_split entries notes items = simp append_assoc

    enum_runs : (names : List Named) (ending : List Bytes) (items : Lexemes) → not (eqb (length names) 0) ≡ true → list_all named_form names ≡ true → are_notes ending ≡ true
        → takes_enum member.kind levels ≡ true
        → run limit (Inside head member levels spot.First) [] ((joined (map named_items names) ++ notes_items ending ++ right_bracket ∷ []) ++ items)
        ≡ run limit (closed head member levels (Enum names ending)) [] items
    enum_runs [] ending items some form noted taken = absurd (true≢false (sym some))
    enum_runs (named ∷ []) ending items some form noted taken =
        let p = and_parts (named_form named) true form in
        ap (λ (x : Lexemes). run limit (Inside head member levels spot.First) [] x)
        (ends_split (named_items named ++ []) (notes_items ending) items ∙ ap (λ (x : Lexemes). x ++ (notes_items ending ++ right_bracket ∷ items)) (append-nil (named_items named)))
        ∙ first_name named (notes_items ending ++ right_bracket ∷ items) p.0
        ∙ run_notes limit (Inside head member levels (spot.Only named)) [] ending (right_bracket ∷ items) noted
        ∙ ap (λ (b : Bool). then_read (close_next head member levels (some_if b (Enum (named ∷ []) ending))) (λ next. run limit next [] items)) taken
    enum_runs (named ∷ next ∷ names) ending items some form noted taken =
        let p = and_parts (named_form named) (list_all named_form (next ∷ names)) form in
        let q = and_parts (named_form next) (list_all named_form names) p.1 in
        let rest = flat_map (λ (x : Lexemes). comma ∷ x) (map named_items names) in
        let last = notes_items ending ++ right_bracket ∷ items in
        ap (λ (x : Lexemes). run limit (Inside head member levels spot.First) [] x)
        (ends_split (named_items named ++ ((comma ∷ named_items next) ++ rest)) (notes_items ending) items
        ∙ append_assoc (named_items named) ((comma ∷ named_items next) ++ rest) last
        ∙ ap (λ (x : Lexemes). named_items named ++ x) (append_assoc (comma ∷ named_items next) rest last))
        ∙ first_name named (comma ∷ (named_items next ++ (rest ++ last))) p.0
        ∙ inside_fits limit head member levels (takes_enum member.kind levels) (spot.MoreNames (named ∷ [])) (named_items next ++ (rest ++ last)) taken
        ∙ next_name (named ∷ []) next (rest ++ last) q.0
        ∙ names_run (named ∷ next ∷ []) names last q.1
        ∙ run_notes limit (Inside head member levels (spot.Names (named ∷ next ∷ names))) [] ending (right_bracket ∷ items) noted

  inner_same : (body : Body) (inner other : Lexemes) → body_items body ≡ left_bracket ∷ inner → body_items body ≡ left_bracket ∷ other → inner ≡ other
  inner_same body inner other e f = let same : ◌≡◌ {A = Lexemes} (left_bracket ∷ inner) (left_bracket ∷ other) = sym e ∙ f in cc

  struct_body : (n : ℕ) (bodies : BodyRuns n) (fields : List Field) (ending : List Bytes) (levels : List Level) (inner items : Lexemes)
      → body_form (Struct fields ending) ≡ true → body_depth (Struct fields ending) ≤ suc n
      → body_depth (Struct fields ending) + length levels ≤ limit → body_items (Struct fields ending) ≡ left_bracket ∷ inner
      → run limit (Inside head member levels spot.First) [] (inner ++ items) ≡ run limit (closed head member levels (Struct fields ending)) [] items
  struct_body n bodies fields ending levels inner items form low within e =
      let depth = struct_depth fields ending in
      let p = and_parts (list_all field_form fields) (are_notes ending) (sym (struct_form fields ending) ∙ form) in
      ap (λ (x : Lexemes). run limit (Inside head member levels spot.First) [] (x ++ items))
      (inner_same (Struct fields ending) inner (joined (map field_items fields) ++ notes_items ending ++ right_bracket ∷ []) e (struct_items fields ending))
      ∙ struct_runs n bodies levels fields ending items p.0 p.1 (omega arith) (omega arith)

  takes_or : (kind : Kind) (levels : List Level) (names : List Named) (ending : List Bytes) → Fits kind levels (Enum names ending) → takes_enum kind levels ≡ true
  takes_or kind levels names ending (inl taken) = taken
  takes_or kind levels names ending (inr struct) = let no : is_struct (Enum names ending) ≡ false = rw outs-Enum refl in absurd (true≢false (sym struct ∙ no))

  enum_body : (names : List Named) (ending : List Bytes) (levels : List Level) (inner items : Lexemes)
      → body_form (Enum names ending) ≡ true → Fits member.kind levels (Enum names ending) → body_items (Enum names ending) ≡ left_bracket ∷ inner
      → run limit (Inside head member levels spot.First) [] (inner ++ items) ≡ run limit (closed head member levels (Enum names ending)) [] items
  enum_body names ending levels inner items form fits e =
      let p = and_parts (not (eqb (length names) 0) && list_all named_form names) (are_notes ending) (sym (enum_form names ending) ∙ form) in
      let q = and_parts (not (eqb (length names) 0)) (list_all named_form names) p.0 in
      ap (λ (x : Lexemes). run limit (Inside head member levels spot.First) [] (x ++ items))
      (inner_same (Enum names ending) inner (joined (map named_items names) ++ notes_items ending ++ right_bracket ∷ []) e (enum_items names ending))
      ∙ enum_runs levels names ending items q.0 q.1 p.1 (takes_or member.kind levels names ending fits)

  pub bodies_run : (n : ℕ) → BodyRuns n
  bodies_run zero body levels inner items form low fits within e = let some = some_depth body in absurd (omega arith)
  bodies_run (suc n) body levels inner items form low fits within e =
      elim (body_view body) [
        | a_struct fields ending is ↦ subst (λ (b : Body). body_form b ≡ true → body_depth b ≤ suc n → body_depth b + length levels ≤ limit → body_items b ≡ left_bracket ∷ inner
            → run limit (Inside head member levels spot.First) [] (inner ++ items) ≡ run limit (closed head member levels b) [] items) (sym is)
            (λ f l w i. struct_body n (bodies_run n) fields ending levels inner items f l w i) form low within e
        | an_enum names ending is ↦ subst (λ (b : Body). body_form b ≡ true → Fits member.kind levels b → body_items b ≡ left_bracket ∷ inner
            → run limit (Inside head member levels spot.First) [] (inner ++ items) ≡ run limit (closed head member levels b) [] items) (sym is)
            (λ f t i. enum_body names ending levels inner items f t i) form fits e
      ]
