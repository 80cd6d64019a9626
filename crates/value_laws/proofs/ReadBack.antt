-- each value of a type reads back from what it shows, by induction on the value
use Rattle.std.proofs.Common.{◌≡◌, ℕ, zero, suc, Bool, true, false, ◌&&◌, List, [], ◌∷◌, ◌++◌, length, map, Option, Some, None, is_some, option_map, ℤ, pos, negsuc, nat_lt, refl, sym, ap, ◌∙◌, subst, bytes_eq, arith}
use Rattle.std.specs.List.{list_all, position_or_len}
use Rattle.std.proofs.lemmas.Slice.Eq.{bytes_eq-Decides}
use Rattle.serde_json.specs.Data.{Data, null, boolean, number, string, array, object, Members, no_members}
use Rattle.serde_json.specs.Find.{as_null, as_object, of_integer, get_member}
use Rattle.serde_json.specs.View.{items_of}
use Rattle.idl_tree.specs.Form.{begins_with_maybe}
use Rattle.idl_tree.specs.Faults.{core_fault, bracket_fault, members_fault, is_among}
use Rattle.idl_tree.specs.Names.{Bytes}
use Rattle.idl_tree.specs.declared.trees.Interface.{Interface}
use Rattle.idl_tree.specs.declared.trees.Prefix.{Prefix}
use Rattle.idl_tree.specs.declared.trees.Prefix.TheVariants.{Array, Map, Maybe}
use Rattle.idl_tree.specs.declared.trees.Named.{Named}
use Rattle.idl_tree.specs.declared.trees.Field.{Field}
use Rattle.idl_tree.specs.declared.trees.TypeRef.{TypeRef}
use Rattle.idl_tree.specs.declared.trees.Body.{Body, out-Body}
use Rattle.idl_tree.specs.declared.trees.Core.{Core, out-Core}
use Rattle.idl_tree.specs.declared.trees.Body.TheOpen.{Body-F, Core-F}
use Rattle.typed_value.specs.Bodies.{behind_maybes, behind_first, part_prefixes, body_in, body_of, fields_in, names_in, fields_of, names_of, fields_or_none, names_or_none}
use Rattle.typed_value.specs.Ints.{is_int, int_of}
use Rattle.typed_value.specs.KeyOrder.{is_whole_tree}
use Rattle.typed_value.specs.OfType.{Fit, fits, fit_step, is_bool, is_whole, is_text, is_foreign, is_plain, items_fit, entries_fit, fields_fit, struct_fits, body_fits}
use Rattle.typed_value.specs.Parts.{core_at, field_at, item_reads, member_reads}
use Rattle.typed_value.specs.Reads.{Reader, reader, member_readers, core_by, body_by, all_of, entries_by, member_by, pick_by}
use Rattle.typed_value.specs.KeyOrder.{are_in_order}
use Rattle.typed_value.specs.Shows.{Writer, writer, write_step, or_null, with_fields, with_entries, with_written, name_at}
use borrow.Author.Tests.{ltb-true, lt-ltb}
use Rattle.typed_value.specs.declared.vals.Val.{Val, roll-Val, map-Val}
use Rattle.typed_value.specs.declared.vals.Val.TheVariants as val
use Rattle.typed_value.specs.declared.vals.Val.TheVariants.{rolls-Bool, rolls-Int, rolls-Str, rolls-Items, rolls-Map, rolls-Struct, rolls-Pick, rolls-Nothing, rolls-Foreign}
use Rattle.typed_value.specs.declared.vals.Val.TheOpen.{Val-F}
use Rattle.typed_value.specs.declared.vals.Val.TheFolds.{ind-Val, fold-roll-Val}
use Rattle.typed_value.proofs.Distinct.{bracket_split, among_split, among_last, first_true, second_true}
use Rattle.typed_value.proofs.EntriesBack.{in_row, put_in_order}
use Rattle.value_laws.proofs.FieldsBack.{Fresh, fresh_more, written_here, stays}
use Rattle.value_laws.proofs.GoodBodies.{pair_of, body_layer, core_body_good}
use Rattle.typed_value.proofs.Readers.{reader_is, struct_is}

-- a tree that is not null, by its core alone
pub core_reader : (scope : Interface) (d : Data) (core : Core) → reader scope d [] core ≡ core_at scope core d
core_reader scope null core = refl
core_reader scope (boolean b) core = refl
core_reader scope (number n) core = refl
core_reader scope (string s) core = refl
core_reader scope (array ds) core = refl
core_reader scope (object ms) core = refl

plain_is : (prefixes : List Prefix) → is_plain prefixes ≡ true → prefixes ≡ []
plain_is [] h = refl
plain_is (prefix ∷ prefixes) h = let no : false ≡ true = h in absurd (cc)

plain_reads : (scope : Interface) (d : Data) (prefixes : List Prefix) (core : Core) → is_some (as_null d) ≡ false → is_plain (behind_maybes prefixes) ≡ true
    → reader scope d prefixes core ≡ core_at scope core d
plain_reads scope d prefixes core some plain =
    reader_is scope d some prefixes core ∙ ap (λ (ps : List Prefix). reader scope d ps core) (plain_is (behind_maybes prefixes) plain) ∙ core_reader scope d core

bool_core : (scope : Interface) (members : Option (List (Bytes × Reader))) (b : Bool) (core : Core-F Body Core Field TypeRef) → is_bool core ≡ true
    → core_by scope (boolean b) members core ≡ Some (val.Bool b)
bool_core scope members b Core-F.Bool h = refl
bool_core scope members b core h = let no : false ≡ true = h in absurd (cc)

int_back : (z : ℤ) → is_int z ≡ true → int_of (of_integer z) ≡ Some z
int_back (pos n) h = rw h refl
int_back (negsuc n) h = rw h refl

int_core : (scope : Interface) (members : Option (List (Bytes × Reader))) (z : ℤ) (core : Core-F Body Core Field TypeRef) → is_whole core ≡ true → is_int z ≡ true
    → core_by scope (number (of_integer z)) members core ≡ Some (val.Int z)
int_core scope members z Core-F.Int h whole = ap (option_map val.Int) (int_back z whole)
int_core scope members z core h whole = let no : false ≡ true = h in absurd (cc)

text_core : (scope : Interface) (members : Option (List (Bytes × Reader))) (s : Bytes) (core : Core-F Body Core Field TypeRef) → is_text core ≡ true
    → core_by scope (string s) members core ≡ Some (val.Str s)
text_core scope members s Core-F.Str h = refl
text_core scope members s core h = let no : false ≡ true = h in absurd (cc)

foreign_core : (scope : Interface) (members : Option (List (Bytes × Reader))) (d : Data) (core : Core-F Body Core Field TypeRef) → is_foreign core ≡ true
    → is_some (as_object d) ≡ true → is_whole_tree d ≡ true → core_by scope d members core ≡ Some (val.Foreign d)
foreign_core scope members d Core-F.Object h o ints = rw (o, ints) refl
foreign_core scope members d core h o ints = let no : false ≡ true = h in absurd (cc)

-- a core that is a struct or an enum, by its body
body_core : (scope : Interface) (d : Data) (members : Option (List (Bytes × Reader))) (core : Core-F Body Core Field TypeRef) (body : Body) → body_in scope core ≡ Some body
    → core_by scope d members core ≡ body_by d members (out-Body body)
body_core scope d members (Core-F.Name name) body is = rw is refl
body_core scope d members (Core-F.Inline other) body is = let same : other ≡ body = (cc) in rw same refl
body_core scope d members Core-F.Bool body is = absurd (cc)
body_core scope d members Core-F.Int body is = absurd (cc)
body_core scope d members Core-F.Float body is = absurd (cc)
body_core scope d members Core-F.Str body is = absurd (cc)
body_core scope d members Core-F.Object body is = absurd (cc)

object_some : (d : Data) → is_some (as_object d) ≡ true → is_some (as_null d) ≡ false
object_some (object ms) h = refl
object_some d h = let no : false ≡ true = h in absurd (cc)

-- a name in a bracket where no name stands twice is none of those before
new_name : (before : List Bytes) (names : List Named) (place : ℕ) (word : Bytes)
    → bracket_fault before (map (λ (named : Named). (named.name, None)) names) ≡ None → name_at place names ≡ Some word → is_among before word ≡ false
new_name before [] place word h is = absurd (cc)
new_name before (named ∷ names) zero word h is =
    let same : named.name ≡ word = (cc) in
    let parts = bracket_split before (named.name, None) (map (λ (other : Named). (other.name, None)) names) h in
    sym (ap (is_among before) same) ∙ parts.0
new_name before (named ∷ names) (suc place) word h is =
    let parts = bracket_split before (named.name, None) (map (λ (other : Named). (other.name, None)) names) h in
    (among_split before named.name word (new_name (before ++ named.name ∷ []) names place word parts.2 is)).0

-- and its place is the first at which it stands
place_from : (before : List Bytes) (names : List Named) (place : ℕ) (word : Bytes)
    → bracket_fault before (map (λ (named : Named). (named.name, None)) names) ≡ None → name_at place names ≡ Some word
    → position_or_len (λ named. bytes_eq named.name word) names ≡ place
place_from before [] place word h is = absurd (cc)
place_from before (named ∷ names) zero word h is =
    let same : named.name ≡ word = (cc) in
    rw ((bytes_eq-Decides named.name word).1 same) refl
place_from before (named ∷ names) (suc place) word h is =
    let parts = bracket_split before (named.name, None) (map (λ (other : Named). (other.name, None)) names) h in
    let other = (among_split before named.name word (new_name (before ++ named.name ∷ []) names place word parts.2 is)).1 in
    rw (other, place_from (before ++ named.name ∷ []) names place word parts.2 is) (omega arith)

name_there : (names : List Named) (place : ℕ) → nat_lt place (length names) ≡ true → (word : Bytes) × (name_at place names ≡ Some word)
name_there [] place h = absurd (omega (arith, ltb-true place 0 h))
name_there (named ∷ names) zero h = (named.name, refl)
name_there (named ∷ names) (suc place) h = name_there names place (lt-ltb place (length names) (omega (arith, ltb-true (suc place) (length (named ∷ names)) h)))

pick_back : (names : List Named) (place : ℕ) (word : Bytes) → nat_lt place (length names) ≡ true
    → bracket_fault [] (map (λ (named : Named). (named.name, None)) names) ≡ None → name_at place names ≡ Some word
    → pick_by names (Some word) ≡ Some (val.Pick place)
pick_back names place word within h is = rw (place_from [] names place word h is, within) refl

module _ (scope : Interface) (defined : Bytes → Bool) (good : members_fault defined [] scope.members ≡ None) where
  abbrev pub ReadsAs : Val → List Prefix → Core → Option Data → Type 0
  ReadsAs v prefixes core None = (v ≡ val.Nothing) × (begins_with_maybe prefixes ≡ true)
  ReadsAs v prefixes core (Some d) = reader scope d prefixes core ≡ Some v

  abbrev pub ReadsBack : Val → Type 0
  ReadsBack v = (prefixes : List Prefix) (core : Core) → core_fault defined core ≡ None → fits scope v prefixes core ≡ true
      → ReadsAs v prefixes core (writer scope v prefixes core)

  abbrev Proved : Type 0
  Proved = (v : Val) × ReadsBack v

  null_reads : (prefixes : List Prefix) (core : Core) → begins_with_maybe prefixes ≡ true → reader scope null prefixes core ≡ Some val.Nothing
  null_reads (Maybe ∷ prefixes) core h = refl
  null_reads [] core h = let no : false ≡ true = h in absurd (cc)
  null_reads (Array ∷ prefixes) core h = let no : false ≡ true = h in absurd (cc)
  null_reads (Map ∷ prefixes) core h = let no : false ≡ true = h in absurd (cc)

  -- what is written, null where nothing is
  shown_reads : (v : Val) (prefixes : List Prefix) (core : Core) (o : Option Data) → ReadsAs v prefixes core o → reader scope (or_null o) prefixes core ≡ Some v
  shown_reads v prefixes core None (is, maybe) = null_reads prefixes core maybe ∙ ap Some (sym is)
  shown_reads v prefixes core (Some d) reads = reads

  abbrev vals : List Proved → List Val
  vals items = map (λ (item : Proved). item.0) items

  items_back : (items : List Proved) (prefixes : List Prefix) (core : Core) → core_fault defined core ≡ None
      → list_all (λ (fit : Fit). fit prefixes core) (map (fits scope) (vals items)) ≡ true
      → all_of (item_reads scope prefixes core (items_of (map (λ (writes : Writer). or_null (writes prefixes core)) (map (writer scope) (vals items))))) ≡ Some (vals items)
  items_back [] prefixes core h fit = refl
  items_back (item ∷ items) prefixes core h fit =
      let here = shown_reads item.0 prefixes core _ (item.1 prefixes core h (first_true (fits scope item.0 prefixes core) _ fit)) in
      rw (here, items_back items prefixes core h (second_true (fits scope item.0 prefixes core) _ fit)) refl

  abbrev entry_vals : List (Bytes × Proved) → List (Bytes × Val)
  entry_vals entries = map (λ (entry : Bytes × Proved). (entry.0, entry.1.0)) entries

  abbrev writers : List (Bytes × Proved) → List (Bytes × Writer)
  writers entries = map (λ (entry : Bytes × Val). (entry.0, writer scope entry.1)) (entry_vals entries)

  abbrev entry_fits : List (Bytes × Proved) → List (Bytes × Fit)
  entry_fits entries = map (λ (entry : Bytes × Val). (entry.0, fits scope entry.1)) (entry_vals entries)

  keys_read : (entries : List (Bytes × Proved)) (prefixes : List Prefix) (core : Core)
      → map (λ (member : Bytes × Reader). member.0) (member_readers scope (in_row prefixes core (writers entries)))
      ≡ map (λ (entry : Bytes × Fit). entry.0) (entry_fits entries)
  keys_read [] prefixes core = refl
  keys_read (entry ∷ entries) prefixes core = ap (λ (keys : List Bytes). entry.0 ∷ keys) (keys_read entries prefixes core)

  keys_same : (entries : List (Bytes × Proved)) → map (λ (entry : Bytes × Writer). entry.0) (writers entries) ≡ map (λ (entry : Bytes × Fit). entry.0) (entry_fits entries)
  keys_same [] = refl
  keys_same (entry ∷ entries) = ap (λ (keys : List Bytes). entry.0 ∷ keys) (keys_same entries)

  row_back : (entries : List (Bytes × Proved)) (prefixes : List Prefix) (core : Core) → core_fault defined core ≡ None
      → list_all (λ (entry : Bytes × Fit). entry.1 prefixes core) (entry_fits entries) ≡ true
      → all_of (member_reads scope prefixes core (in_row prefixes core (writers entries))) ≡ Some (entry_vals entries)
  row_back [] prefixes core h fit = refl
  row_back (entry ∷ entries) prefixes core h fit =
      let here = shown_reads entry.1.0 prefixes core _ (entry.1.1 prefixes core h (first_true (fits scope entry.1.0 prefixes core) _ fit)) in
      rw (here, row_back entries prefixes core h (second_true (fits scope entry.1.0 prefixes core) _ fit)) refl

  entries_back : (entries : List (Bytes × Proved)) (prefixes : List Prefix) (core : Core) → core_fault defined core ≡ None
      → entries_fit (entry_fits entries) (Map ∷ prefixes) core ≡ true
      → entries_by prefixes core (member_readers scope (with_entries prefixes core (writers entries) no_members)) ≡ Some (entry_vals entries)
  entries_back entries prefixes core h fit =
      let order = first_true (are_in_order (map (λ (entry : Bytes × Fit). entry.0) (entry_fits entries))) _ fit in
      let put = put_in_order prefixes core (writers entries) (rw (keys_same entries) order) in
      rw (put, keys_read entries prefixes core, order) (row_back entries prefixes core h (second_true (are_in_order (map (λ (entry : Bytes × Fit). entry.0) (entry_fits entries))) _ fit))

  head_back : (field : Field) (v : Val) (o : Option Data) → ReadsAs v field.of.prefixes field.of.core o
      → member_by field (option_map (reader scope) o) ≡ Some v
  head_back field v None (is, maybe) = rw maybe (ap Some (sym is))
  head_back field v (Some d) reads = reads

  fields_back : (fields : List Field) (items : List Proved) (before : List Bytes) (ms : Members)
      → bracket_fault before (map (pair_of defined) fields) ≡ None → Fresh before ms
      → fields_fit fields (map (fits scope) (vals items)) ≡ true
      → all_of (map (field_at scope (object (with_fields fields (map (writer scope) (vals items)) ms))) fields) ≡ Some (vals items)
  fields_back [] [] before ms h fresh fit = refl
  fields_back [] (item ∷ items) before ms h fresh fit = let no : false ≡ true = fit in absurd (cc)
  fields_back (field ∷ fields) [] before ms h fresh fit = let no : false ≡ true = fit in absurd (cc)
  fields_back (field ∷ fields) (item ∷ items) before ms h fresh fit =
      let parts = bracket_split before (pair_of defined field) (map (pair_of defined) fields) h in
      let written = writer scope item.0 field.of.prefixes field.of.core in
      let later = with_written field.name written ms in
      let fits_here = first_true (fits scope item.0 field.of.prefixes field.of.core) (fields_fit fields (map (fits scope) (vals items))) fit in
      let fits_later = second_true (fits scope item.0 field.of.prefixes field.of.core) (fields_fit fields (map (fits scope) (vals items))) fit in
      let found : get_member field.name (with_fields fields (map (writer scope) (vals items)) later) ≡ written =
      stays (λ (f : Field). core_fault defined f.of.core) fields (map (writer scope) (vals items)) (before ++ field.name ∷ []) field.name later parts.2 (among_last before field.name)
      ∙ written_here field.name written ms (fresh field.name parts.0) in
      let here = ap (λ (o : Option Data). member_by field (option_map (reader scope) o)) found
      ∙ head_back field item.0 written (item.1 field.of.prefixes field.of.core parts.1 fits_here) in
      rw (here, fields_back fields items (before ++ field.name ∷ []) later parts.2 (fresh_more before field.name written ms fresh) fits_later) refl

  struct_back : (items : List Proved) (body : Body-F Body Core Field TypeRef) → body_layer defined body ≡ None
      → struct_fits body (map (fits scope) (vals items)) ≡ true
      → body_by (object (with_fields (fields_in body) (map (writer scope) (vals items)) no_members))
      (Some (member_readers scope (with_fields (fields_in body) (map (writer scope) (vals items)) no_members))) body ≡ Some (val.Struct (vals items))
  struct_back items (Body-F.Struct fields ending) h fit =
      struct_is scope fields ending (object (with_fields fields (map (writer scope) (vals items)) no_members)) refl
      ∙ ap (option_map val.Struct) (fields_back fields items [] no_members h (λ q none. refl) fit)
  struct_back items (Body-F.Enum names ending) h fit = let no : false ≡ true = fit in absurd (cc)

  -- by one layer of the value
  by_layer : (x : Val-F Val) (prefixes : List Prefix) (core : Core)
      → (fit_step scope (map-Val Val Fit (fits scope) x) prefixes core ≡ true → ReadsAs (roll-Val x) prefixes core (write_step scope (map-Val Val Writer (writer scope) x) prefixes core))
      → fits scope (roll-Val x) prefixes core ≡ true → ReadsAs (roll-Val x) prefixes core (writer scope (roll-Val x) prefixes core)
  by_layer x prefixes core back fit =
      let written = ap (λ (writes : Writer). writes prefixes core) (fold-roll-Val Writer (write_step scope) x) in
      let fitting = ap (λ (f : Fit). f prefixes core) (sym (fold-roll-Val Fit (fit_step scope) x)) ∙ fit in
      subst (λ (o : Option Data). ReadsAs (roll-Val x) prefixes core o) (sym written) (back fitting)

  array_back : (items : List Proved) (prefixes : List Prefix) (core : Core) → core_fault defined core ≡ None
      → items_fit (map (fits scope) (vals items)) prefixes core ≡ true
      → reader scope (array (items_of (map (λ (writes : Writer). or_null (writes (behind_first prefixes) core)) (map (writer scope) (vals items))))) prefixes core
      ≡ Some (val.Items (vals items))
  array_back items (Array ∷ prefixes) core h fit = ap (option_map val.Items) (items_back items prefixes core h fit)
  array_back items (Map ∷ prefixes) core h fit = let no : false ≡ true = fit in absurd (cc)
  array_back items (Maybe ∷ prefixes) core h fit = let no : false ≡ true = fit in absurd (cc)
  array_back items [] core h fit = let no : false ≡ true = fit in absurd (cc)

  map_back : (entries : List (Bytes × Proved)) (prefixes : List Prefix) (core : Core) → core_fault defined core ≡ None
      → entries_fit (entry_fits entries) prefixes core ≡ true
      → reader scope (object (with_entries (behind_first prefixes) core (writers entries) no_members)) prefixes core ≡ Some (val.Map (entry_vals entries))
  map_back entries (Map ∷ prefixes) core h fit = ap (option_map val.Map) (entries_back entries prefixes core h fit)
  map_back entries (Array ∷ prefixes) core h fit = let no : false ≡ true = fit in absurd (cc)
  map_back entries (Maybe ∷ prefixes) core h fit = let no : false ≡ true = fit in absurd (cc)
  map_back entries [] core h fit = let no : false ≡ true = fit in absurd (cc)

  enum_back : (body : Body-F Body Core Field TypeRef) (place : ℕ) (word : Bytes) → body_layer defined body ≡ None
      → nat_lt place (length (names_in body)) ≡ true → name_at place (names_in body) ≡ Some word
      → body_by (string word) None body ≡ Some (val.Pick place)
  enum_back (Body-F.Struct fields ending) place word h fit is = absurd (cc)
  enum_back (Body-F.Enum names ending) place word h fit is = pick_back names place word fit h is

  body_back : (items : List Proved) (prefixes : List Prefix) (core : Core) (body : Option Body) → core_fault defined core ≡ None → body_of scope core ≡ body
      → is_plain (behind_maybes prefixes) ≡ true → body_fits body (map (fits scope) (vals items)) ≡ true
      → reader scope (object (with_fields (fields_or_none body) (map (writer scope) (vals items)) no_members)) prefixes core ≡ Some (val.Struct (vals items))
  body_back items prefixes core None h is plain fit = let no : false ≡ true = fit in absurd (cc)
  body_back items prefixes core (Some body) h is plain fit =
      let d = object (with_fields (fields_or_none (Some body)) (map (writer scope) (vals items)) no_members) in
      plain_reads scope d prefixes core refl plain ∙ body_core scope d (Some (member_readers scope (with_fields (fields_of body) (map (writer scope) (vals items)) no_members))) (out-Core core) body is
      ∙ struct_back items (out-Body body) (core_body_good defined scope core body good h is) fit

  names_back : (prefixes : List Prefix) (core : Core) (body : Option Body) (place : ℕ) → core_fault defined core ≡ None → body_of scope core ≡ body
      → is_plain (behind_maybes prefixes) ≡ true → nat_lt place (length (names_or_none body)) ≡ true
      → (word : Bytes) × (name_at place (names_or_none body) ≡ Some word) × (reader scope (string word) prefixes core ≡ Some (val.Pick place))
  names_back prefixes core None place h is plain fit = absurd (omega (arith, ltb-true place 0 fit))
  names_back prefixes core (Some body) place h is plain fit =
      let there = name_there (names_of body) place fit in
      let reads = plain_reads scope (string there.0) prefixes core refl plain ∙ body_core scope (string there.0) None (out-Core core) body is
      ∙ enum_back (out-Body body) place there.0 (core_body_good defined scope core body good h is) fit there.1 in
      (there.0, there.1, reads)

  layer_back : (y : Val-F Proved) → ReadsBack (roll-Val (map-Val Proved Val (λ item. item.0) y))
  layer_back (Val-F.Bool b) prefixes core h = by_layer (Val-F.Bool b) prefixes core (λ fit.
      plain_reads scope (boolean b) prefixes core refl (first_true _ _ fit) ∙ bool_core scope None b (out-Core core) (second_true _ _ fit) ∙ ap Some (sym (rolls-Bool b)))
  layer_back (Val-F.Int z) prefixes core h = by_layer (Val-F.Int z) prefixes core (λ fit.
      let both = first_true (is_plain (behind_maybes prefixes) && is_whole (out-Core core)) (is_int z) fit in
      plain_reads scope (number (of_integer z)) prefixes core refl (first_true (is_plain (behind_maybes prefixes)) (is_whole (out-Core core)) both)
      ∙ int_core scope None z (out-Core core) (second_true (is_plain (behind_maybes prefixes)) (is_whole (out-Core core)) both)
      (second_true (is_plain (behind_maybes prefixes) && is_whole (out-Core core)) (is_int z) fit)
      ∙ ap Some (sym (rolls-Int z)))
  layer_back (Val-F.Str s) prefixes core h = by_layer (Val-F.Str s) prefixes core (λ fit.
      plain_reads scope (string s) prefixes core refl (first_true _ _ fit) ∙ text_core scope None s (out-Core core) (second_true _ _ fit) ∙ ap Some (sym (rolls-Str s)))
  layer_back (Val-F.Items items) prefixes core h = by_layer (Val-F.Items (vals items)) prefixes core (λ fit.
      reader_is scope (array (items_of (map (λ (writes : Writer). or_null (writes (part_prefixes prefixes) core)) (map (writer scope) (vals items))))) refl prefixes core
      ∙ array_back items (behind_maybes prefixes) core h fit ∙ ap Some (sym (rolls-Items (vals items))))
  layer_back (Val-F.Map entries) prefixes core h = by_layer (Val-F.Map (entry_vals entries)) prefixes core (λ fit.
      reader_is scope (object (with_entries (part_prefixes prefixes) core (writers entries) no_members)) refl prefixes core
      ∙ map_back entries (behind_maybes prefixes) core h fit ∙ ap Some (sym (rolls-Map (entry_vals entries))))
  layer_back (Val-F.Struct items) prefixes core h = by_layer (Val-F.Struct (vals items)) prefixes core (λ fit.
      body_back items prefixes core (body_of scope core) h refl (first_true _ _ fit) (second_true _ _ fit) ∙ ap Some (sym (rolls-Struct (vals items))))
  layer_back (Val-F.Pick place) prefixes core h = by_layer (Val-F.Pick place) prefixes core (λ fit.
      let there = names_back prefixes core (body_of scope core) place h refl (first_true (is_plain (behind_maybes prefixes)) _ fit)
      (second_true (is_plain (behind_maybes prefixes)) _ fit) in
      subst (λ (o : Option Bytes). ReadsAs (roll-Val (Val-F.Pick place)) prefixes core (option_map string o)) (sym there.1)
      (there.2 ∙ ap Some (sym (rolls-Pick place))))
  layer_back Val-F.Nothing prefixes core h = by_layer Val-F.Nothing prefixes core (λ fit. (rolls-Nothing, fit))
  layer_back (Val-F.Foreign d) prefixes core h = by_layer (Val-F.Foreign d) prefixes core (λ fit.
      let plain = is_plain (behind_maybes prefixes) in
      let kind = is_foreign (out-Core core) in
      let three = first_true (plain && kind && is_some (as_object d)) (is_whole_tree d) fit in
      let two = first_true (plain && kind) (is_some (as_object d)) three in
      let object_here = second_true (plain && kind) (is_some (as_object d)) three in
      plain_reads scope d prefixes core (object_some d object_here) (first_true plain kind two)
      ∙ foreign_core scope (option_map (member_readers scope) (as_object d)) d (out-Core core) (second_true plain kind two) object_here
      (second_true (plain && kind && is_some (as_object d)) (is_whole_tree d) fit)
      ∙ ap Some (sym (rolls-Foreign d)))

  pub reads_back : (v : Val) → ReadsBack v
  reads_back = ind-Val ReadsBack (λ x y is. subst (λ (z : Val-F Val). ReadsBack (roll-Val z)) is (layer_back y))

  pub shown_back : (v : Val) (prefixes : List Prefix) (core : Core) → core_fault defined core ≡ None → fits scope v prefixes core ≡ true
      → reader scope (or_null (writer scope v prefixes core)) prefixes core ≡ Some v
  shown_back v prefixes core h fit = shown_reads v prefixes core (writer scope v prefixes core) (reads_back v prefixes core h fit)
