-- types that are the same have the same values, where their names mean the same
use Rattle.std.proofs.Common.{◌≡◌, ℕ, suc, Bool, true, false, ◌||◌, ◌&&◌, ◌⊎◌, inl, inr, nat_lt, List, [], ◌∷◌, map, length, is_some, refl, sym, ap, ◌∙◌, subst}
use Rattle.std.specs.List.{list_all, list_any}
use Rattle.std.specs.Str.{bytes_eq}
use Rattle.std.proofs.lemmas.Bool.{false≢true}
use Rattle.std.proofs.lemmas.Slice.Eq.{bytes_eq-Decides}
use Rattle.serde_json.specs.Find.{as_object}
use Rattle.idl_tree.specs.Names.{Bytes}
use Rattle.idl_tree.specs.Faults.{type_named}
use Rattle.idl_tree.specs.Same.{each_passes, same_prefix, same_prefixes, same_named, same_names, BodyTest, CoreTest, FieldTest, TypeTest, body_test, core_test, same_body_step, same_core_step, same_field_step, same_type_step, same_body, same_core, same_type}
use Rattle.idl_tree.specs.declared.trees.Interface.{Interface}
use Rattle.idl_tree.specs.declared.trees.Prefix.{Prefix}
use Rattle.idl_tree.specs.declared.trees.Prefix.TheVariants.{Array, Map, Maybe}
use Rattle.idl_tree.specs.declared.trees.Named.{Named}
use Rattle.idl_tree.specs.declared.trees.Field.{Field}
use Rattle.idl_tree.specs.declared.trees.TypeRef.{TypeRef}
use Rattle.idl_tree.specs.declared.trees.Body.{Body, out-Body, map-Body}
use Rattle.idl_tree.specs.declared.trees.Core.{Core, out-Core, map-Core}
use Rattle.idl_tree.specs.declared.trees.Body.TheOpen.{Body-F, Core-F}
use Rattle.idl_tree.specs.declared.trees.Body.TheFolds.{fold-Field, fold_out-Body, fold_out-Core, fold_out-Field}
use Rattle.idl_tree.proofs.Opened.{type_opens}
use Rattle.typed_value.specs.Bodies.{behind_maybes, body_in, names_in, names_or_none}
use Rattle.typed_value.specs.Ints.{is_int}
use Rattle.typed_value.specs.KeyOrder.{are_in_order, is_whole_tree}
use Rattle.typed_value.specs.OfType.{Fit, fits, fit_step, is_plain, is_bool, is_whole, is_text, is_foreign, items_fit, entries_fit, fields_fit, struct_fits, body_fits}
use Rattle.typed_value.specs.declared.vals.Val.{Val, roll-Val, map-Val}
use Rattle.typed_value.specs.declared.vals.Val.TheOpen.{Val-F}
use Rattle.typed_value.specs.declared.vals.Val.TheFolds.{ind-Val, fold-roll-Val}
use Rattle.typed_value.proofs.Distinct.{first_true, second_true}
use Rattle.typed_value.proofs.EntriesBack.{both}
use Rattle.step_laws.proofs.StructValues.{CoreLayer, BodyLayer}
use Rattle.sheet_rules.specs.Types.{core_has_name, body_has_name, type_has_name, body_names_step, core_names_step, field_names_step, type_names_step}

-- equal prefixes
prefix_is : (p q : Prefix) → same_prefix p q ≡ true → p ≡ q
prefix_is Array Array h = refl
prefix_is Map Map h = refl
prefix_is Maybe Maybe h = refl
prefix_is p q h = absurd (false≢true h)

pub prefixes_are : (ps qs : List Prefix) → same_prefixes ps qs ≡ true → ps ≡ qs
prefixes_are [] [] h = refl
prefixes_are [] (q ∷ qs) h = absurd (false≢true h)
prefixes_are (p ∷ ps) [] h = absurd (false≢true h)
prefixes_are (p ∷ ps) (q ∷ qs) h =
    let one = prefix_is p q (first_true (same_prefix p q) (same_prefixes ps qs) h) in
    let rest = prefixes_are ps qs (second_true (same_prefix p q) (same_prefixes ps qs) h) in
    λ i. one i ∷ rest i

as_many : (names others : List Named) → same_names names others ≡ true → length names ≡ length others
as_many [] [] h = refl
as_many [] (other ∷ others) h = absurd (false≢true h)
as_many (name ∷ names) [] h = absurd (false≢true h)
as_many (name ∷ names) (other ∷ others) h = ap suc (as_many names others (second_true (same_named name other) (same_names names others) h))

-- the test of being the same, by layers
abbrev field_test : Field → FieldTest
field_test = fold-Field BodyTest CoreTest FieldTest TypeTest same_body_step same_core_step same_field_step same_type_step

abbrev core_tests : CoreLayer → Core-F BodyTest CoreTest FieldTest TypeTest
core_tests = map-Core Body Core Field TypeRef BodyTest CoreTest FieldTest TypeTest same_body same_core field_test same_type

abbrev body_tests : BodyLayer → Body-F BodyTest CoreTest FieldTest TypeTest
body_tests = map-Body Body Core Field TypeRef BodyTest CoreTest FieldTest TypeTest same_body same_core field_test same_type

core_opens : (c d : Core) → same_core c d ≡ core_test (core_tests (out-Core c)) (out-Core d)
core_opens c d = ap (λ (test : CoreTest). test d)
    (fold_out-Core BodyTest CoreTest FieldTest TypeTest same_body_step same_core_step same_field_step same_type_step c)

body_opens : (b c : Body) → same_body b c ≡ body_test (body_tests (out-Body b)) (out-Body c)
body_opens b c = ap (λ (test : BodyTest). test c)
    (fold_out-Body BodyTest CoreTest FieldTest TypeTest same_body_step same_core_step same_field_step same_type_step b)

type_opened : (t u : TypeRef) → same_type t u ≡ (same_prefixes t.prefixes u.prefixes && same_core t.core u.core)
type_opened t u = ap (λ (test : TypeTest). test u)
    (type_opens BodyTest CoreTest FieldTest TypeTest same_body_step same_core_step same_field_step same_type_step t)

field_opened : (f g : Field) → field_test f g ≡ (bytes_eq f.name g.name && same_type f.of g.of)
field_opened f g = ap (λ (test : FieldTest). test g)
    (fold_out-Field BodyTest CoreTest FieldTest TypeTest same_body_step same_core_step same_field_step same_type_step f)

-- whether a name occurs, by layers
abbrev field_named : Field → Bool
field_named = fold-Field Bool Bool Bool Bool body_names_step core_names_step field_names_step type_names_step

abbrev core_name : CoreLayer → Bool
core_name (Core-F.Name name) = true
core_name (Core-F.Inline body) = body_has_name body
core_name core = false

abbrev body_name : BodyLayer → Bool
body_name (Body-F.Struct fields ending) = list_any (λ (field : Field). core_has_name field.of.core) fields
body_name (Body-F.Enum names ending) = false

core_named_so : (core : CoreLayer)
    → core_names_step (map-Core Body Core Field TypeRef Bool Bool Bool Bool body_has_name core_has_name field_named type_has_name core) ≡ core_name core
core_named_so Core-F.Bool = refl
core_named_so Core-F.Int = refl
core_named_so Core-F.Float = refl
core_named_so Core-F.Str = refl
core_named_so Core-F.Object = refl
core_named_so (Core-F.Name name) = refl
core_named_so (Core-F.Inline body) = refl

core_named : (core : Core) → core_has_name core ≡ core_name (out-Core core)
core_named core = fold_out-Core Bool Bool Bool Bool body_names_step core_names_step field_names_step type_names_step core
    ∙ core_named_so (out-Core core)

field_named_so : (field : Field) → field_named field ≡ core_has_name field.of.core
field_named_so field = fold_out-Field Bool Bool Bool Bool body_names_step core_names_step field_names_step type_names_step field
    ∙ type_opens Bool Bool Bool Bool body_names_step core_names_step field_names_step type_names_step field.of

any_named : (fields : List Field) → list_any (λ (named : Bool). named) (map field_named fields) ≡ list_any (λ (field : Field). core_has_name field.of.core) fields
any_named [] = refl
any_named (field ∷ fields) = λ i. field_named_so field i || any_named fields i

body_named_so : (body : BodyLayer)
    → body_names_step (map-Body Body Core Field TypeRef Bool Bool Bool Bool body_has_name core_has_name field_named type_has_name body) ≡ body_name body
body_named_so (Body-F.Struct fields ending) = any_named fields
body_named_so (Body-F.Enum names ending) = refl

body_named : (body : Body) → body_has_name body ≡ body_name (out-Body body)
body_named body = fold_out-Body Bool Bool Bool Bool body_names_step core_names_step field_names_step type_names_step body
    ∙ body_named_so (out-Body body)

-- cores that are the same are of one kind
same_kinds : (k l : CoreLayer) → core_test (core_tests k) l ≡ true
    → (is_bool k ≡ is_bool l) × (is_whole k ≡ is_whole l) × (is_text k ≡ is_text l) × (is_foreign k ≡ is_foreign l)
same_kinds Core-F.Bool Core-F.Bool h = (refl, refl, refl, refl)
same_kinds Core-F.Int Core-F.Int h = (refl, refl, refl, refl)
same_kinds Core-F.Float Core-F.Float h = (refl, refl, refl, refl)
same_kinds Core-F.Str Core-F.Str h = (refl, refl, refl, refl)
same_kinds Core-F.Object Core-F.Object h = (refl, refl, refl, refl)
same_kinds (Core-F.Name name) (Core-F.Name other) h = (refl, refl, refl, refl)
same_kinds (Core-F.Inline body) (Core-F.Inline other) h = (refl, refl, refl, refl)
same_kinds k l h = absurd (false≢true h)

or_first : (a b : Bool) → (a || b) ≡ false → a ≡ false
or_first true b h = h
or_first false b h = refl

or_second : (a b : Bool) → (a || b) ≡ false → b ≡ false
or_second true b h = let no : true ≡ false = h in absurd (cc)
or_second false b h = h

module _ (home other : Interface) where
  -- names mean the same, or there is none
  abbrev pub Agrees : Bool → Type 0
  Agrees named = (home ≡ other) ⊎ (named ≡ false)

  abbrev IsKept : Val → Type 0
  IsKept v = (prefixes : List Prefix) (c d : Core) → Agrees (core_has_name c) → same_core c d ≡ true → fits home v prefixes c ≡ true
      → fits other v prefixes d ≡ true

  abbrev Proved : Type 0
  Proved = (v : Val) × IsKept v

  abbrev vals : List Proved → List Val
  vals items = map (λ (item : Proved). item.0) items

  agrees_at : (one two : Bool) → one ≡ two → Agrees one → Agrees two
  agrees_at one two is agrees = subst Agrees is agrees

  agrees_first : (a b : Bool) → Agrees (a || b) → Agrees a
  agrees_first a b (inl same) = inl same
  agrees_first a b (inr none) = inr (or_first a b none)

  agrees_second : (a b : Bool) → Agrees (a || b) → Agrees b
  agrees_second a b (inl same) = inl same
  agrees_second a b (inr none) = inr (or_second a b none)

  items_kept : (items : List Proved) (prefixes : List Prefix) (c d : Core) → Agrees (core_has_name c) → same_core c d ≡ true
      → list_all (λ (fit : Fit). fit prefixes c) (map (fits home) (vals items)) ≡ true
      → list_all (λ (fit : Fit). fit prefixes d) (map (fits other) (vals items)) ≡ true
  items_kept [] prefixes c d agrees same h = refl
  items_kept (item ∷ items) prefixes c d agrees same h =
      both (fits other item.0 prefixes d) _ (item.1 prefixes c d agrees same (first_true (fits home item.0 prefixes c) _ h))
      (items_kept items prefixes c d agrees same (second_true (fits home item.0 prefixes c) _ h))

  array_kept : (items : List Proved) (prefixes : List Prefix) (c d : Core) → Agrees (core_has_name c) → same_core c d ≡ true
      → items_fit (map (fits home) (vals items)) prefixes c ≡ true → items_fit (map (fits other) (vals items)) prefixes d ≡ true
  array_kept items (Array ∷ prefixes) c d agrees same h = items_kept items prefixes c d agrees same h
  array_kept items prefixes c d agrees same h = absurd (false≢true h)

  abbrev entry_vals : List (Bytes × Proved) → List (Bytes × Val)
  entry_vals entries = map (λ (entry : Bytes × Proved). (entry.0, entry.1.0)) entries

  abbrev entry_fits : Interface → List (Bytes × Proved) → List (Bytes × Fit)
  entry_fits scope entries = map (λ (entry : Bytes × Val). (entry.0, fits scope entry.1)) (entry_vals entries)

  abbrev keys : List (Bytes × Fit) → List Bytes
  keys entries = map (λ (entry : Bytes × Fit). entry.0) entries

  keys_kept : (entries : List (Bytes × Proved)) → keys (entry_fits home entries) ≡ keys (entry_fits other entries)
  keys_kept [] = refl
  keys_kept (entry ∷ entries) = ap (λ (rest : List Bytes). entry.0 ∷ rest) (keys_kept entries)

  rows_kept : (entries : List (Bytes × Proved)) (prefixes : List Prefix) (c d : Core) → Agrees (core_has_name c) → same_core c d ≡ true
      → list_all (λ (entry : Bytes × Fit). entry.1 prefixes c) (entry_fits home entries) ≡ true
      → list_all (λ (entry : Bytes × Fit). entry.1 prefixes d) (entry_fits other entries) ≡ true
  rows_kept [] prefixes c d agrees same h = refl
  rows_kept (entry ∷ entries) prefixes c d agrees same h =
      both (fits other entry.1.0 prefixes d) _ (entry.1.1 prefixes c d agrees same (first_true (fits home entry.1.0 prefixes c) _ h))
      (rows_kept entries prefixes c d agrees same (second_true (fits home entry.1.0 prefixes c) _ h))

  map_kept : (entries : List (Bytes × Proved)) (prefixes : List Prefix) (c d : Core) → Agrees (core_has_name c) → same_core c d ≡ true
      → entries_fit (entry_fits home entries) prefixes c ≡ true → entries_fit (entry_fits other entries) prefixes d ≡ true
  map_kept entries (Map ∷ prefixes) c d agrees same h =
      both (are_in_order (keys (entry_fits other entries))) _
      (ap are_in_order (sym (keys_kept entries)) ∙ first_true (are_in_order (keys (entry_fits home entries))) _ h)
      (rows_kept entries prefixes c d agrees same (second_true (are_in_order (keys (entry_fits home entries))) _ h))
  map_kept entries prefixes c d agrees same h = absurd (false≢true h)

  -- a value for each field
  abbrev AgreesAll : List Field → Type 0
  AgreesAll fields = Agrees (list_any (λ (field : Field). core_has_name field.of.core) fields)

  fields_kept : (fields others : List Field) (items : List Proved) → AgreesAll fields → each_passes (map field_test fields) others ≡ true
      → fields_fit fields (map (fits home) (vals items)) ≡ true → fields_fit others (map (fits other) (vals items)) ≡ true
  fields_kept [] [] items agrees same h = empty items h
    where
      empty : (xs : List Proved) → fields_fit [] (map (fits home) (vals xs)) ≡ true → fields_fit [] (map (fits other) (vals xs)) ≡ true
      empty [] k = refl
      empty (x ∷ xs) k = absurd (false≢true k)
  fields_kept [] (g ∷ others) items agrees same h = absurd (false≢true same)
  fields_kept (f ∷ fields) [] items agrees same h = absurd (false≢true same)
  fields_kept (f ∷ fields) (g ∷ others) [] agrees same h = absurd (false≢true h)
  fields_kept (f ∷ fields) (g ∷ others) (item ∷ items) agrees same h =
      let here = second_true (bytes_eq f.name g.name) _ (sym (field_opened f g) ∙ first_true (field_test f g) _ same) in
      let of = sym (type_opened f.of g.of) ∙ here in
      let prefixes = prefixes_are f.of.prefixes g.of.prefixes (first_true (same_prefixes f.of.prefixes g.of.prefixes) _ of) in
      let core = second_true (same_prefixes f.of.prefixes g.of.prefixes) _ of in
      let fit = item.1 f.of.prefixes f.of.core g.of.core (agrees_first (core_has_name f.of.core) _ agrees) core
      (first_true (fits home item.0 f.of.prefixes f.of.core) _ h) in
      both (fits other item.0 g.of.prefixes g.of.core) _ (subst (λ (ps : List Prefix). fits other item.0 ps g.of.core ≡ true) prefixes fit)
      (fields_kept fields others items (agrees_second (core_has_name f.of.core) _ agrees) (second_true (field_test f g) _ same)
      (second_true (fits home item.0 f.of.prefixes f.of.core) _ h))

  struct_kept : (b c : BodyLayer) (items : List Proved) → Agrees (body_name b) → body_test (body_tests b) c ≡ true
      → struct_fits b (map (fits home) (vals items)) ≡ true → struct_fits c (map (fits other) (vals items)) ≡ true
  struct_kept (Body-F.Struct fields ending) (Body-F.Struct others last) items agrees same h = fields_kept fields others items agrees same h
  struct_kept (Body-F.Struct fields ending) (Body-F.Enum names last) items agrees same h = absurd (false≢true same)
  struct_kept (Body-F.Enum names ending) c items agrees same h = absurd (false≢true h)

  names_kept : (b c : BodyLayer) → body_test (body_tests b) c ≡ true → length (names_in b) ≡ length (names_in c)
  names_kept (Body-F.Struct fields ending) (Body-F.Struct others last) same = refl
  names_kept (Body-F.Struct fields ending) (Body-F.Enum names last) same = absurd (false≢true same)
  names_kept (Body-F.Enum names ending) (Body-F.Struct others last) same = absurd (false≢true same)
  names_kept (Body-F.Enum names ending) (Body-F.Enum others last) same = as_many names others same

  same_text : (name text : Bytes) → bytes_eq name text ≡ true → name ≡ text
  same_text name text h = (bytes_eq-Decides name text).0 h

  body_kept : (k l : CoreLayer) (items : List Proved) → Agrees (core_name k) → core_test (core_tests k) l ≡ true
      → body_fits (body_in home k) (map (fits home) (vals items)) ≡ true → body_fits (body_in other l) (map (fits other) (vals items)) ≡ true
  body_kept (Core-F.Name name) (Core-F.Name text) items (inl one) same h =
      let is = same_text name text same in
      (λ i. body_fits (type_named (sym is i) (sym one i)) (map (fits (sym one i)) (vals items))) ∙ h
  body_kept (Core-F.Name name) (Core-F.Name text) items (inr none) same h = let no : true ≡ false = none in absurd (cc)
  body_kept (Core-F.Inline b) (Core-F.Inline c) items agrees same h =
      struct_kept (out-Body b) (out-Body c) items (agrees_at (body_has_name b) (body_name (out-Body b)) (body_named b) agrees) (sym (body_opens b c) ∙ same) h
  body_kept Core-F.Bool l items agrees same h = absurd (false≢true h)
  body_kept Core-F.Int l items agrees same h = absurd (false≢true h)
  body_kept Core-F.Float l items agrees same h = absurd (false≢true h)
  body_kept Core-F.Str l items agrees same h = absurd (false≢true h)
  body_kept Core-F.Object l items agrees same h = absurd (false≢true h)
  body_kept k l items agrees same h = absurd (false≢true same)

  pick_kept : (k l : CoreLayer) → Agrees (core_name k) → core_test (core_tests k) l ≡ true
      → length (names_or_none (body_in home k)) ≡ length (names_or_none (body_in other l))
  pick_kept (Core-F.Name name) (Core-F.Name text) (inl one) same =
      let is = same_text name text same in
      λ i. length (names_or_none (type_named (is i) (one i)))
  pick_kept (Core-F.Name name) (Core-F.Name text) (inr none) same = let no : true ≡ false = none in absurd (cc)
  pick_kept (Core-F.Inline b) (Core-F.Inline c) agrees same = names_kept (out-Body b) (out-Body c) (sym (body_opens b c) ∙ same)
  pick_kept Core-F.Bool Core-F.Bool agrees same = refl
  pick_kept Core-F.Int Core-F.Int agrees same = refl
  pick_kept Core-F.Float Core-F.Float agrees same = refl
  pick_kept Core-F.Str Core-F.Str agrees same = refl
  pick_kept Core-F.Object Core-F.Object agrees same = refl
  pick_kept k l agrees same = absurd (false≢true same)

  layer_kept : (y : Val-F Proved) (prefixes : List Prefix) (c d : Core) → Agrees (core_has_name c) → same_core c d ≡ true
      → fit_step home (map-Val Val Fit (fits home) (map-Val Proved Val (λ item. item.0) y)) prefixes c ≡ true
      → fit_step other (map-Val Val Fit (fits other) (map-Val Proved Val (λ item. item.0) y)) prefixes d ≡ true
  layer_kept (Val-F.Bool b) prefixes c d agrees same h =
      let kinds = same_kinds (out-Core c) (out-Core d) (sym (core_opens c d) ∙ same) in
      ap (λ (kind : Bool). is_plain (behind_maybes prefixes) && kind) (sym kinds.0) ∙ h
  layer_kept (Val-F.Int z) prefixes c d agrees same h =
      let kinds = same_kinds (out-Core c) (out-Core d) (sym (core_opens c d) ∙ same) in
      ap (λ (kind : Bool). is_plain (behind_maybes prefixes) && kind && is_int z) (sym kinds.1) ∙ h
  layer_kept (Val-F.Str s) prefixes c d agrees same h =
      let kinds = same_kinds (out-Core c) (out-Core d) (sym (core_opens c d) ∙ same) in
      ap (λ (kind : Bool). is_plain (behind_maybes prefixes) && kind) (sym kinds.2) ∙ h
  layer_kept (Val-F.Items items) prefixes c d agrees same h = array_kept items (behind_maybes prefixes) c d agrees same h
  layer_kept (Val-F.Map entries) prefixes c d agrees same h = map_kept entries (behind_maybes prefixes) c d agrees same h
  layer_kept (Val-F.Struct items) prefixes c d agrees same h =
      both (is_plain (behind_maybes prefixes)) _ (first_true (is_plain (behind_maybes prefixes)) _ h)
      (body_kept (out-Core c) (out-Core d) items (agrees_at (core_has_name c) (core_name (out-Core c)) (core_named c) agrees) (sym (core_opens c d) ∙ same)
      (second_true (is_plain (behind_maybes prefixes)) _ h))
  layer_kept (Val-F.Pick place) prefixes c d agrees same h =
      let names = pick_kept (out-Core c) (out-Core d) (agrees_at (core_has_name c) (core_name (out-Core c)) (core_named c) agrees) (sym (core_opens c d) ∙ same) in
      ap (λ (n : ℕ). is_plain (behind_maybes prefixes) && nat_lt place n) (sym names) ∙ h
  layer_kept Val-F.Nothing prefixes c d agrees same h = h
  layer_kept (Val-F.Foreign tree) prefixes c d agrees same h =
      let kinds = same_kinds (out-Core c) (out-Core d) (sym (core_opens c d) ∙ same) in
      ap (λ (kind : Bool). is_plain (behind_maybes prefixes) && kind && is_some (as_object tree) && is_whole_tree tree) (sym kinds.3) ∙ h

  pub same_values : (v : Val) → IsKept v
  same_values = ind-Val IsKept (λ x y is. subst (λ (z : Val-F Val). IsKept (roll-Val z)) is (λ prefixes c d agrees same h.
      ap (λ (f : Fit). f prefixes d) (fold-roll-Val Fit (fit_step other) (map-Val Proved Val (λ item. item.0) y))
      ∙ layer_kept y prefixes c d agrees same (ap (λ (f : Fit). f prefixes c) (sym (fold-roll-Val Fit (fit_step home) (map-Val Proved Val (λ item. item.0) y))) ∙ h)))
