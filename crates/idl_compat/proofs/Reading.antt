-- each value of a type, shown, reads by a type in which it is within: by induction on the value
use Rattle.std.proofs.Common.{◌≡◌, ℕ, zero, suc, Bool, true, false, ◌&&◌, ◌||◌, ◌⊎◌, inl, inr, cond, List, [], ◌∷◌, ◌++◌, length, map, Option, Some, None, is_some, is_none, option_map, ℤ, pos, negsuc, nat_lt, refl, sym, ap, ◌∙◌, subst, bytes_eq, arith}
use Rattle.std.specs.List.{list_all, list_any, position_or_len}
use Rattle.std.proofs.lemmas.Bool.{cases_Bool}
use Rattle.std.proofs.lemmas.Slice.Eq.{bytes_eq-Decides}
use Rattle.serde_json.specs.Data.{Data, null, boolean, number, string, array, object, Members, no_members}
use Rattle.serde_json.specs.Find.{as_null, as_object, of_integer, get_member}
use Rattle.serde_json.specs.View.{items_of}
use Rattle.serde_json.proofs.Views.{get_member-put_other}
use Rattle.idl_tree.specs.Form.{begins_with_maybe, is_struct_layer}
use Rattle.idl_tree.specs.Faults.{core_fault, body_fault, bracket_fault, members_fault}
use Rattle.idl_tree.specs.Names.{Bytes}
use Rattle.idl_tree.specs.declared.trees.Interface.{Interface}
use Rattle.idl_tree.specs.declared.trees.Prefix.{Prefix}
use Rattle.idl_tree.specs.declared.trees.Prefix.TheVariants.{Array, Map, Maybe}
use Rattle.idl_tree.specs.declared.trees.Named.{Named}
use Rattle.idl_tree.specs.declared.trees.Field.{Field}
use Rattle.idl_tree.specs.declared.trees.TypeRef.{TypeRef}
use Rattle.idl_tree.specs.declared.trees.Body.{Body, out-Body}
use Rattle.idl_tree.specs.declared.trees.Core.{Core, out-Core}
use Rattle.idl_tree.specs.declared.trees.Core.TheVariants.{Inline, outs-Inline}
use Rattle.idl_tree.specs.declared.trees.Body.TheOpen.{Body-F, Core-F}
use Rattle.typed_value.specs.Bodies.{behind_maybes, behind_first, part_prefixes, body_in, body_of, fields_in, names_in, fields_of, names_of, fields_or_none, names_or_none}
use Rattle.typed_value.specs.Ints.{is_int, int_of}
use Rattle.typed_value.specs.KeyOrder.{is_whole_tree, are_in_order}
use Rattle.typed_value.specs.OfType.{Fit, fits, fit_step, is_bool, is_whole, is_text, is_foreign, is_plain, items_fit, entries_fit, fields_fit, struct_fits, body_fits, is_of_body}
use Rattle.typed_value.specs.Parts.{core_at, field_at, item_reads, member_reads}
use Rattle.typed_value.specs.Reads.{Reader, reader, member_readers, core_by, body_by, all_of, entries_by, member_by, pick_by, ReadsBody}
use Rattle.typed_value.specs.Shows.{Writer, writer, write_step, or_null, with_fields, with_entries, with_written, name_at, ShowsFields}
use Rattle.typed_value.specs.declared.vals.Val.{Val, roll-Val, map-Val}
use Rattle.typed_value.specs.declared.vals.Val.TheVariants as val
use Rattle.typed_value.specs.declared.vals.Val.TheOpen.{Val-F}
use Rattle.typed_value.specs.declared.vals.Val.TheFolds.{ind-Val, fold-roll-Val}
use borrow.Author.Tests.{ltb-true, lt-ltb}
use Rattle.typed_value.proofs.Distinct.{bracket_split, among_last, first_true, second_true}
use Rattle.typed_value.proofs.EntriesBack.{in_row, put_in_order}
use Rattle.value_laws.proofs.FieldsBack.{Fresh, fresh_more, written_here, stays}
use Rattle.value_laws.proofs.GoodBodies.{pair_of, body_layer, core_body_good, core_of_body}
use Rattle.value_laws.proofs.ReadBack.{core_reader}
use Rattle.typed_value.proofs.Readers.{reader_is, struct_is}
use Rattle.value_laws.proofs.StructBack.{shown}
use Rattle.idl_compat.specs.Within.{Scopes, Step, Line, Among, Within, line, steps_of, word_of, leads_to_failure, same_basic, is_string, is_enum, nothing_where, kind_of, field_step, field_named, field_steps, has_all, body_line, core_line, bodies}
use Rattle.idl_compat.proofs.Chains.{among_front, among_back, within_step, within_next, within_line, missing_fails}

-- ---- prefixes

pub peeled : (scopes : Scopes) (from : List Prefix) (core : Core) (to : List Prefix) (other : Core) → Within scopes ((from, core), (to, other))
    → Within scopes ((behind_maybes from, core), (behind_maybes to, other))
peeled scopes (Maybe ∷ from) core (Maybe ∷ to) other w =
    peeled scopes from core to other (within_next scopes ((Maybe ∷ from, core), (Maybe ∷ to, other)) (word_of Maybe) (from, core) (to, other) refl w)
peeled scopes [] core (Maybe ∷ to) other w =
    peeled scopes [] core to other (within_next scopes (([], core), (Maybe ∷ to, other)) (word_of Maybe) ([], core) (to, other) refl w)
peeled scopes (Array ∷ from) core (Maybe ∷ to) other w =
    peeled scopes (Array ∷ from) core to other (within_next scopes ((Array ∷ from, core), (Maybe ∷ to, other)) (word_of Maybe) (Array ∷ from, core) (to, other) refl w)
peeled scopes (Map ∷ from) core (Maybe ∷ to) other w =
    peeled scopes (Map ∷ from) core to other (within_next scopes ((Map ∷ from, core), (Maybe ∷ to, other)) (word_of Maybe) (Map ∷ from, core) (to, other) refl w)
peeled scopes (Maybe ∷ from) core to other w = let no : true ≡ false = within_line scopes ((Maybe ∷ from, core), (to, other)) w in absurd (cc)
peeled scopes from core to other w = w

pub maybe_too : (scopes : Scopes) (from : List Prefix) (core : Core) (to : List Prefix) (other : Core) → Within scopes ((from, core), (to, other))
    → begins_with_maybe from ≡ true → begins_with_maybe to ≡ true
maybe_too scopes from core (Maybe ∷ to) other w h = refl
maybe_too scopes (Maybe ∷ from) core to other w h = let no : true ≡ false = within_line scopes ((Maybe ∷ from, core), (to, other)) w in absurd (cc)
maybe_too scopes from core to other w h = let no : false ≡ true = h in absurd (cc)

behind_plain : (prefixes : List Prefix) → begins_with_maybe (behind_maybes prefixes) ≡ false
behind_plain [] = refl
behind_plain (Maybe ∷ prefixes) = behind_plain prefixes
behind_plain (Array ∷ prefixes) = refl
behind_plain (Map ∷ prefixes) = refl

no_prefix : (scopes : Scopes) (core : Core) (to : List Prefix) (other : Core) → Within scopes (([], core), (to, other)) → begins_with_maybe to ≡ false → to ≡ []
no_prefix scopes core [] other w h = refl
no_prefix scopes core (Maybe ∷ to) other w h = let no : true ≡ false = h in absurd (cc)
no_prefix scopes core (Array ∷ to) other w h = let no : true ≡ false = within_line scopes (([], core), (Array ∷ to, other)) w in absurd (cc)
no_prefix scopes core (Map ∷ to) other w h = let no : true ≡ false = within_line scopes (([], core), (Map ∷ to, other)) w in absurd (cc)

plain_is : (prefixes : List Prefix) → is_plain prefixes ≡ true → prefixes ≡ []
plain_is [] h = refl
plain_is (prefix ∷ prefixes) h = let no : false ≡ true = h in absurd (cc)

-- a type without prefixes but `?`, and the type in which it is within
plain_pair : (scopes : Scopes) (from : List Prefix) (core : Core) (to : List Prefix) (other : Core) → Within scopes ((from, core), (to, other))
    → is_plain (behind_maybes from) ≡ true → (behind_maybes to ≡ []) × Within scopes (([], core), ([], other))
plain_pair scopes from core to other w h =
    let inner = subst (λ (ps : List Prefix). Within scopes ((ps, core), (behind_maybes to, other))) (plain_is (behind_maybes from) h) (peeled scopes from core to other w) in
    let none = no_prefix scopes core (behind_maybes to) other inner (behind_plain to) in
    (none, subst (λ (ps : List Prefix). Within scopes (([], core), (ps, other))) none inner)

plain_at : (scope : Interface) (d : Data) (to : List Prefix) (other : Core) → is_some (as_null d) ≡ false → behind_maybes to ≡ []
    → reader scope d to other ≡ core_at scope other d
plain_at scope d to other some none =
    reader_is scope d some to other ∙ ap (λ (ps : List Prefix). reader scope d ps other) none ∙ core_reader scope d other

-- ---- types without parts

same_is : (one other : Core-F Body Core Field TypeRef) → same_basic one other ≡ true → one ≡ other
same_is Core-F.Bool Core-F.Bool h = refl
same_is Core-F.Int Core-F.Int h = refl
same_is Core-F.Float Core-F.Float h = refl
same_is Core-F.Str Core-F.Str h = refl
same_is Core-F.Object Core-F.Object h = refl
same_is one other h = let no : false ≡ true = h in absurd (cc)

where_true : (b : Bool) → is_none (nothing_where b) ≡ false → b ≡ true
where_true true h = refl
where_true false h = let no : true ≡ false = h in absurd (cc)

line_same : (core other : Core) (o : Option Body) → is_none (core_line core other None o) ≡ false → same_basic (out-Core core) (out-Core other) ≡ true
line_same core other None h = where_true (same_basic (out-Core core) (out-Core other)) h
line_same core other (Some body) h = let no : true ≡ false = h in absurd (cc)

basic_same : (scopes : Scopes) (core other : Core) → body_of scopes.0 core ≡ None → Within scopes (([], core), ([], other)) → out-Core core ≡ out-Core other
basic_same scopes core other none w =
    same_is (out-Core core) (out-Core other) (line_same core other (body_of scopes.1 other)
    (subst (λ (o : Option Body). is_none (core_line core other o (body_of scopes.1 other)) ≡ false) none (within_line scopes (([], core), ([], other)) w)))

bool_alone : (scope : Interface) (core : Core-F Body Core Field TypeRef) → is_bool core ≡ true → body_in scope core ≡ None
bool_alone scope Core-F.Bool h = refl
bool_alone scope core h = let no : false ≡ true = h in absurd (cc)

int_alone : (scope : Interface) (core : Core-F Body Core Field TypeRef) → is_whole core ≡ true → body_in scope core ≡ None
int_alone scope Core-F.Int h = refl
int_alone scope core h = let no : false ≡ true = h in absurd (cc)

text_alone : (scope : Interface) (core : Core-F Body Core Field TypeRef) → is_text core ≡ true → body_in scope core ≡ None
text_alone scope Core-F.Str h = refl
text_alone scope core h = let no : false ≡ true = h in absurd (cc)

foreign_alone : (scope : Interface) (core : Core-F Body Core Field TypeRef) → is_foreign core ≡ true → body_in scope core ≡ None
foreign_alone scope Core-F.Object h = refl
foreign_alone scope core h = let no : false ≡ true = h in absurd (cc)

bool_reads : (scope : Interface) (members : Option (List (Bytes × Reader))) (b : Bool) (core : Core-F Body Core Field TypeRef) → is_bool core ≡ true
    → is_some (core_by scope (boolean b) members core) ≡ true
bool_reads scope members b Core-F.Bool h = refl
bool_reads scope members b core h = let no : false ≡ true = h in absurd (cc)

int_back : (z : ℤ) → is_int z ≡ true → int_of (of_integer z) ≡ Some z
int_back (pos n) h = rw h refl
int_back (negsuc n) h = rw h refl

int_reads : (scope : Interface) (members : Option (List (Bytes × Reader))) (z : ℤ) (core : Core-F Body Core Field TypeRef) → is_whole core ≡ true → is_int z ≡ true
    → is_some (core_by scope (number (of_integer z)) members core) ≡ true
int_reads scope members z Core-F.Int h whole = ap (λ (o : Option ℤ). is_some (option_map val.Int o)) (int_back z whole)
int_reads scope members z core h whole = let no : false ≡ true = h in absurd (cc)

text_reads : (scope : Interface) (members : Option (List (Bytes × Reader))) (s : Bytes) (core : Core-F Body Core Field TypeRef) → is_text core ≡ true
    → is_some (core_by scope (string s) members core) ≡ true
text_reads scope members s Core-F.Str h = refl
text_reads scope members s core h = let no : false ≡ true = h in absurd (cc)

string_reads : (scope : Interface) (members : Option (List (Bytes × Reader))) (s : Bytes) (core : Core-F Body Core Field TypeRef) → is_string core ≡ true
    → is_some (core_by scope (string s) members core) ≡ true
string_reads scope members s Core-F.Str h = refl
string_reads scope members s core h = let no : false ≡ true = h in absurd (cc)

foreign_reads : (scope : Interface) (members : Option (List (Bytes × Reader))) (d : Data) (core : Core-F Body Core Field TypeRef) → is_foreign core ≡ true
    → is_some (as_object d) ≡ true → is_whole_tree d ≡ true → is_some (core_by scope d members core) ≡ true
foreign_reads scope members d Core-F.Object h o ints = rw (o, ints) refl
foreign_reads scope members d core h o ints = let no : false ≡ true = h in absurd (cc)

object_some : (d : Data) → is_some (as_object d) ≡ true → is_some (as_null d) ≡ false
object_some (object ms) h = refl
object_some d h = let no : false ≡ true = h in absurd (cc)

-- ---- types with a body

body_core : (scope : Interface) (d : Data) (members : Option (List (Bytes × Reader))) (core : Core-F Body Core Field TypeRef) (body : Body) → body_in scope core ≡ Some body
    → core_by scope d members core ≡ body_by d members (out-Body body)
body_core scope d members (Core-F.Name name) body is = rw is refl
body_core scope d members (Core-F.Inline other) body is = let same : other ≡ body = (cc) in rw same refl
body_core scope d members Core-F.Bool body is = absurd (cc)
body_core scope d members Core-F.Int body is = absurd (cc)
body_core scope d members Core-F.Float body is = absurd (cc)
body_core scope d members Core-F.Str body is = absurd (cc)
body_core scope d members Core-F.Object body is = absurd (cc)

-- ---- enums

or_false : (a b : Bool) → (a || b) ≡ true → (a ≡ true) ⊎ (b ≡ true)
or_false true b h = inl refl
or_false false b h = inr h

placed : (p : Named → Bool) (names : List Named) → list_any p names ≡ true → nat_lt (position_or_len p names) (length names) ≡ true
placed p [] h = let no : false ≡ true = h in absurd (cc)
placed p (named ∷ names) h = elim (cases_Bool (p named)) [
  | inl here ↦ rw here (lt-ltb 0 (suc (length names)) (omega arith))
  | inr not_here ↦ rw not_here (lt-ltb _ _ (omega (arith, ltb-true (position_or_len p names) (length names) (placed p names (rw not_here at h)))))
]

picks : (names : List Named) (word : Bytes) → list_any (λ (named : Named). bytes_eq named.name word) names ≡ true → is_some (pick_by names (Some word)) ≡ true
picks names word h = rw (placed (λ (named : Named). bytes_eq named.name word) names h) refl

all_there : (names others : List Named) (place : ℕ) (word : Bytes) → has_all names others ≡ true → name_at place names ≡ Some word
    → list_any (λ (other : Named). bytes_eq other.name word) others ≡ true
all_there [] others place word all is = absurd (cc)
all_there (named ∷ names) others zero word all is =
    let same : named.name ≡ word = (cc) in
    ap (λ (w : Bytes). list_any (λ (other : Named). bytes_eq other.name w) others) (sym same) ∙ first_true _ _ all
all_there (named ∷ names) others (suc place) word all is = all_there names others place word (second_true (list_any (λ (other : Named). bytes_eq other.name named.name) others) _ all) is

name_there : (names : List Named) (place : ℕ) → nat_lt place (length names) ≡ true → (word : Bytes) × (name_at place names ≡ Some word)
name_there [] place h = absurd (omega (arith, ltb-true place 0 h))
name_there (named ∷ names) zero h = (named.name, refl)
name_there (named ∷ names) (suc place) h = name_there names place (lt-ltb place (length names) (omega (arith, ltb-true (suc place) (length (named ∷ names)) h)))

-- ---- lists of readings

some_mapped : {A B : Type 0} (f : A → B) (o : Option A) → is_some o ≡ true → is_some (option_map f o) ≡ true
some_mapped f None h = h
some_mapped f (Some x) h = refl

all_more : {A : Type 0} (x : Option A) (xs : List (Option A)) → is_some x ≡ true → is_some (all_of xs) ≡ true → is_some (all_of (x ∷ xs)) ≡ true
all_more None xs h k = h
all_more (Some x) xs h k = some_mapped (λ values. x ∷ values) (all_of xs) k

found_by : (b : Bool) (field : Field) (later : Option Field) (f : Field) → cond b (Some field) later ≡ Some f
    → ((b ≡ true) × (field ≡ f)) ⊎ ((b ≡ false) × (later ≡ Some f))
found_by true field later f is = let same : field ≡ f = (cc) in inl (refl, same)
found_by false field later f is = inr (refl, is)

lost_by : (b : Bool) (field : Field) (later : Option Field) → cond b (Some field) later ≡ None → (b ≡ false) × (later ≡ None)
lost_by true field later is = absurd (cc)
lost_by false field later is = (refl, is)

not_it : (name q : Bytes) → bytes_eq name q ≡ false → q ≡ name → ⊥
not_it name q h same = let no : true ≡ false = sym ((bytes_eq-Decides name q).1 (sym same)) ∙ h in absurd (cc)

other_stays : (q name : Bytes) (o : Option Data) (ms : Members) → bytes_eq name q ≡ false → get_member q (with_written name o ms) ≡ get_member q ms
other_stays q name None ms h = refl
other_stays q name (Some d) ms h = get_member-put_other q name d ms (not_it name q h)

-- a field that the struct lacks is no member of the object that shows it
absent : (fields : List Field) (values : List Writer) (q : Bytes) (ms : Members) → field_named q fields ≡ None → get_member q ms ≡ None
    → get_member q (with_fields fields values ms) ≡ None
absent [] values q ms h none = none
absent (field ∷ fields) [] q ms h none = none
absent (field ∷ fields) (writes ∷ values) q ms h none =
    let lost = lost_by (bytes_eq field.name q) field (field_named q fields) h in
    absent fields values q (with_written field.name (writes field.of.prefixes field.of.core) ms) lost.1
    (other_stays q field.name (writes field.of.prefixes field.of.core) ms lost.0 ∙ none)

optional : (scopes : Scopes) (b : Bool) (name : Bytes) → ((step : Step) → Among step (cond b [] ((name, None) ∷ [])) → (words : List Bytes) → leads_to_failure scopes words step.1 ≡ false) → b ≡ true
optional scopes true name each = refl
optional scopes false name each = let no : true ≡ false = sym (missing_fails scopes) ∙ each (name, None) (inl refl) [] in absurd (cc)

bodies_are : (scopes : Scopes) (core other : Core) (body reads : Body) → body_of scopes.0 core ≡ Some body → body_of scopes.1 other ≡ Some reads
    → line scopes (([], core), ([], other)) ≡ body_line (out-Body body) (out-Body reads)
bodies_are scopes core other body reads is reads_is = rw (is, reads_is) refl

half_line : (scopes : Scopes) (core other : Core) (body : Body) → body_of scopes.0 core ≡ Some body → body_of scopes.1 other ≡ None
    → Within scopes (([], core), ([], other)) → is_none (nothing_where (is_enum (out-Body body) && is_string (out-Core other))) ≡ false
half_line scopes core other body is none w =
    let first = subst (λ (o : Option Body). is_none (core_line core other o (body_of scopes.1 other)) ≡ false) is (within_line scopes (([], core), ([], other)) w) in
    subst (λ (o : Option Body). is_none (core_line core other (Some body) o) ≡ false) none first

module _ (scopes : Scopes) (defined : Bytes → Bool) (good : members_fault defined [] scopes.0.members ≡ None) where
  abbrev pub ReadsBy : List Prefix → Core → Option Data → Type 0
  ReadsBy to other None = begins_with_maybe to ≡ true
  ReadsBy to other (Some d) = is_some (reader scopes.1 d to other) ≡ true

  abbrev pub Carries : Val → Type 0
  Carries v = (from : List Prefix) (core : Core) (to : List Prefix) (other : Core) → core_fault defined core ≡ None
      → Within scopes ((from, core), (to, other)) → fits scopes.0 v from core ≡ true → ReadsBy to other (writer scopes.0 v from core)

  abbrev Proved : Type 0
  Proved = (v : Val) × Carries v

  null_reads : (to : List Prefix) (other : Core) → begins_with_maybe to ≡ true → is_some (reader scopes.1 null to other) ≡ true
  null_reads (Maybe ∷ to) other h = refl
  null_reads [] other h = let no : false ≡ true = h in absurd (cc)
  null_reads (Array ∷ to) other h = let no : false ≡ true = h in absurd (cc)
  null_reads (Map ∷ to) other h = let no : false ≡ true = h in absurd (cc)

  shown_reads : (to : List Prefix) (other : Core) (o : Option Data) → ReadsBy to other o → is_some (reader scopes.1 (or_null o) to other) ≡ true
  shown_reads to other None maybe = null_reads to other maybe
  shown_reads to other (Some d) reads = reads

  abbrev vals : List Proved → List Val
  vals items = map (λ (item : Proved). item.0) items

  items_read : (items : List Proved) (from : List Prefix) (core : Core) (to : List Prefix) (other : Core) → core_fault defined core ≡ None
      → Within scopes ((from, core), (to, other)) → list_all (λ (fit : Fit). fit from core) (map (fits scopes.0) (vals items)) ≡ true
      → is_some (all_of (item_reads scopes.1 to other (items_of (map (λ (writes : Writer). or_null (writes from core)) (map (writer scopes.0) (vals items)))))) ≡ true
  items_read [] from core to other h w fit = refl
  items_read (item ∷ items) from core to other h w fit =
      all_more (reader scopes.1 (or_null (writer scopes.0 item.0 from core)) to other) _
      (shown_reads to other _ (item.1 from core to other h w (first_true (fits scopes.0 item.0 from core) _ fit)))
      (items_read items from core to other h w (second_true (fits scopes.0 item.0 from core) _ fit))

  abbrev entry_vals : List (Bytes × Proved) → List (Bytes × Val)
  entry_vals entries = map (λ (entry : Bytes × Proved). (entry.0, entry.1.0)) entries

  abbrev writers : List (Bytes × Proved) → List (Bytes × Writer)
  writers entries = map (λ (entry : Bytes × Val). (entry.0, writer scopes.0 entry.1)) (entry_vals entries)

  abbrev entry_fits : List (Bytes × Proved) → List (Bytes × Fit)
  entry_fits entries = map (λ (entry : Bytes × Val). (entry.0, fits scopes.0 entry.1)) (entry_vals entries)

  keys_read : (entries : List (Bytes × Proved)) (from : List Prefix) (core : Core)
      → map (λ (member : Bytes × Reader). member.0) (member_readers scopes.1 (in_row from core (writers entries)))
      ≡ map (λ (entry : Bytes × Fit). entry.0) (entry_fits entries)
  keys_read [] from core = refl
  keys_read (entry ∷ entries) from core = ap (λ (keys : List Bytes). entry.0 ∷ keys) (keys_read entries from core)

  keys_same : (entries : List (Bytes × Proved)) → map (λ (entry : Bytes × Writer). entry.0) (writers entries) ≡ map (λ (entry : Bytes × Fit). entry.0) (entry_fits entries)
  keys_same [] = refl
  keys_same (entry ∷ entries) = ap (λ (keys : List Bytes). entry.0 ∷ keys) (keys_same entries)

  row_reads : (entries : List (Bytes × Proved)) (from : List Prefix) (core : Core) (to : List Prefix) (other : Core) → core_fault defined core ≡ None
      → Within scopes ((from, core), (to, other)) → list_all (λ (entry : Bytes × Fit). entry.1 from core) (entry_fits entries) ≡ true
      → is_some (all_of (member_reads scopes.1 to other (in_row from core (writers entries)))) ≡ true
  row_reads [] from core to other h w fit = refl
  row_reads (entry ∷ entries) from core to other h w fit =
      all_more (option_map (λ value. (entry.0, value)) (reader scopes.1 (or_null (writer scopes.0 entry.1.0 from core)) to other)) _
      (some_mapped (λ value. (entry.0, value)) (reader scopes.1 (or_null (writer scopes.0 entry.1.0 from core)) to other)
      (shown_reads to other _ (entry.1.1 from core to other h w (first_true (fits scopes.0 entry.1.0 from core) _ fit))))
      (row_reads entries from core to other h w (second_true (fits scopes.0 entry.1.0 from core) _ fit))

  entries_read : (entries : List (Bytes × Proved)) (from : List Prefix) (core : Core) (to : List Prefix) (other : Core) → core_fault defined core ≡ None
      → Within scopes ((from, core), (to, other)) → entries_fit (entry_fits entries) (Map ∷ from) core ≡ true
      → is_some (entries_by to other (member_readers scopes.1 (with_entries from core (writers entries) no_members))) ≡ true
  entries_read entries from core to other h w fit =
      let order = first_true (are_in_order (map (λ (entry : Bytes × Fit). entry.0) (entry_fits entries))) _ fit in
      let put = put_in_order from core (writers entries) (rw (keys_same entries) order) in
      rw (put, keys_read entries from core, order)
      (row_reads entries from core to other h w (second_true (are_in_order (map (λ (entry : Bytes × Fit). entry.0) (entry_fits entries))) _ fit))

  -- ---- structs

  abbrev Held : List Field → List Proved → Members → Bytes → Field → Type 0
  Held fields items ms q field = (item : Proved)
      × (get_member q (with_fields fields (map (writer scopes.0) (vals items)) ms) ≡ writer scopes.0 item.0 field.of.prefixes field.of.core)
      × (fits scopes.0 item.0 field.of.prefixes field.of.core ≡ true) × (core_fault defined field.of.core ≡ None)

  held : (fields : List Field) (items : List Proved) (before : List Bytes) (ms : Members) (q : Bytes) (f : Field)
      → bracket_fault before (map (pair_of defined) fields) ≡ None → Fresh before ms
      → fields_fit fields (map (fits scopes.0) (vals items)) ≡ true → field_named q fields ≡ Some f → Held fields items ms q f
  held [] items before ms q f h fresh fit is = absurd (cc)
  held (field ∷ fields) [] before ms q f h fresh fit is = let no : false ≡ true = fit in absurd (cc)
  held (field ∷ fields) (item ∷ items) before ms q f h fresh fit is =
      let parts = bracket_split before (pair_of defined field) (map (pair_of defined) fields) h in
      let written = writer scopes.0 item.0 field.of.prefixes field.of.core in
      let later = with_written field.name written ms in
      let fits_here = first_true (fits scopes.0 item.0 field.of.prefixes field.of.core) (fields_fit fields (map (fits scopes.0) (vals items))) fit in
      let fits_later = second_true (fits scopes.0 item.0 field.of.prefixes field.of.core) (fields_fit fields (map (fits scopes.0) (vals items))) fit in
      elim (found_by (bytes_eq field.name q) field (field_named q fields) f is) [
        | inl here ↦ (
            let found : get_member field.name (with_fields fields (map (writer scopes.0) (vals items)) later) ≡ written =
            stays (λ (g : Field). core_fault defined g.of.core) fields (map (writer scopes.0) (vals items)) (before ++ field.name ∷ []) field.name later parts.2 (among_last before field.name)
            ∙ written_here field.name written ms (fresh field.name parts.0) in
            let at_name : Held (field ∷ fields) (item ∷ items) ms field.name field = (item, found, fits_here, parts.1) in
            let at_q = subst (λ (name : Bytes). Held (field ∷ fields) (item ∷ items) ms name field) ((bytes_eq-Decides field.name q).0 here.0) at_name in
            subst (λ (g : Field). Held (field ∷ fields) (item ∷ items) ms q g) here.1 at_q)
        | inr there ↦ held fields items (before ++ field.name ∷ []) later q f parts.2 (fresh_more before field.name written ms fresh) fits_later there.1
      ]

  given_reads : (field : Field) (o : Option Data) → ReadsBy field.of.prefixes field.of.core o → is_some (member_by field (option_map (reader scopes.1) o)) ≡ true
  given_reads field None maybe = rw maybe refl
  given_reads field (Some d) reads = reads

  module _ (fields : List Field) (items : List Proved) (h : bracket_fault [] (map (pair_of defined) fields) ≡ None)
      (fit : fields_fit fields (map (fits scopes.0) (vals items)) ≡ true) where
    abbrev tree : Data
    tree = object (with_fields fields (map (writer scopes.0) (vals items)) no_members)

    field_reads : (field : Field) (given : Option Field) → field_named field.name fields ≡ given
        → ((step : Step) → Among step (field_step given field) → (words : List Bytes) → leads_to_failure scopes words step.1 ≡ false)
        → is_some (field_at scopes.1 tree field) ≡ true
    field_reads field None is each =
        let gone = absent fields (map (writer scopes.0) (vals items)) field.name no_members is refl in
        let maybe = optional scopes (begins_with_maybe field.of.prefixes) field.name each in
        ap (λ (o : Option Data). is_some (member_by field (option_map (reader scopes.1) o))) gone ∙ (rw maybe refl)
    field_reads field (Some f) is each =
        let there = held fields items [] no_members field.name f h (λ q none. refl) fit is in
        let reads = there.0.1 f.of.prefixes f.of.core field.of.prefixes field.of.core there.3 (each (field.name, Some (kind_of f, kind_of field)) (inl refl)) there.2 in
        ap (λ (o : Option Data). is_some (member_by field (option_map (reader scopes.1) o))) there.1 ∙ given_reads field _ reads

    fields_read : (others : List Field)
        → ((step : Step) → Among step (field_steps fields others) → (words : List Bytes) → leads_to_failure scopes words step.1 ≡ false)
        → is_some (all_of (map (field_at scopes.1 tree) others)) ≡ true
    fields_read [] each = refl
    fields_read (field ∷ others) each =
        all_more (field_at scopes.1 tree field) _
        (field_reads field (field_named field.name fields) refl (λ step among. each step (among_front step _ _ among)))
        (fields_read others (λ step among. each step (among_back step (field_step (field_named field.name fields) field) _ among)))

  struct_reads : (items : List Proved) (body reads : Body-F Body Core Field TypeRef) → body_layer defined body ≡ None
      → struct_fits body (map (fits scopes.0) (vals items)) ≡ true → is_none (body_line body reads) ≡ false
      → ((step : Step) → Among step (steps_of (body_line body reads)) → (words : List Bytes) → leads_to_failure scopes words step.1 ≡ false)
      → is_some (body_by (object (with_fields (fields_in body) (map (writer scopes.0) (vals items)) no_members))
      (Some (member_readers scopes.1 (with_fields (fields_in body) (map (writer scopes.0) (vals items)) no_members))) reads) ≡ true
  struct_reads items (Body-F.Struct fields ending) (Body-F.Struct others other) h fit line each =
      ap is_some (struct_is scopes.1 others other (tree fields items h fit) refl)
      ∙ some_mapped val.Struct (all_of (map (field_at scopes.1 (tree fields items h fit)) others)) (fields_read fields items h fit others each)
  struct_reads items (Body-F.Struct fields ending) (Body-F.Enum names other) h fit line each = let no : true ≡ false = line in absurd (cc)
  struct_reads items (Body-F.Enum names ending) reads h fit line each = let no : false ≡ true = fit in absurd (cc)

  no_struct : (items : List Proved) (body : Body-F Body Core Field TypeRef) (other : Core) → struct_fits body (map (fits scopes.0) (vals items)) ≡ true
      → is_none (nothing_where (is_enum body && is_string (out-Core other))) ≡ false → ⊥
  no_struct items (Body-F.Struct fields ending) other fit line = let no : true ≡ false = line in absurd (cc)
  no_struct items (Body-F.Enum names ending) other fit line = let no : false ≡ true = fit in absurd (cc)

  body_reads : (items : List Proved) (core : Core) (to : List Prefix) (other : Core) (body reads : Option Body) → core_fault defined core ≡ None
      → body_of scopes.0 core ≡ body → body_of scopes.1 other ≡ reads → behind_maybes to ≡ [] → Within scopes (([], core), ([], other))
      → body_fits body (map (fits scopes.0) (vals items)) ≡ true
      → is_some (reader scopes.1 (object (with_fields (fields_or_none body) (map (writer scopes.0) (vals items)) no_members)) to other) ≡ true
  body_reads items core to other None reads h is reads_is none w fit = let no : false ≡ true = fit in absurd (cc)
  body_reads items core to other (Some body) None h is reads_is none w fit =
      absurd (no_struct items (out-Body body) other fit (half_line scopes core other body is reads_is w))
  body_reads items core to other (Some body) (Some reads) h is reads_is none w fit =
      let ms = with_fields (fields_of body) (map (writer scopes.0) (vals items)) no_members in
      let lines = bodies_are scopes core other body reads is reads_is in
      ap is_some (plain_at scopes.1 (object ms) to other refl none ∙ body_core scopes.1 (object ms) (Some (member_readers scopes.1 ms)) (out-Core other) reads reads_is)
      ∙ struct_reads items (out-Body body) (out-Body reads) (core_body_good defined scopes.0 core body good h is) fit
      (ap is_none (sym lines) ∙ within_line scopes (([], core), ([], other)) w)
      (λ step among. within_step scopes (([], core), ([], other)) step w (subst (λ (l : Line). Among step (steps_of l)) (sym lines) among))

  -- ---- names of enums

  word_reads : (word : Bytes) (place : ℕ) (body reads : Body-F Body Core Field TypeRef) → name_at place (names_in body) ≡ Some word → is_none (body_line body reads) ≡ false
      → is_some (body_by (string word) None reads) ≡ true
  word_reads word place (Body-F.Struct fields ending) reads is line = absurd (cc)
  word_reads word place (Body-F.Enum names ending) (Body-F.Struct fields other) is line = let no : true ≡ false = line in absurd (cc)
  word_reads word place (Body-F.Enum names ending) (Body-F.Enum others other) is line =
      picks others word (all_there names others place word (where_true (has_all names others) line) is)

  pick_reads : (word : Bytes) (place : ℕ) (core : Core) (to : List Prefix) (other : Core) (body : Body) (reads : Option Body)
      → body_of scopes.0 core ≡ Some body → body_of scopes.1 other ≡ reads → behind_maybes to ≡ [] → Within scopes (([], core), ([], other))
      → name_at place (names_of body) ≡ Some word → is_some (reader scopes.1 (string word) to other) ≡ true
  pick_reads word place core to other body None is reads_is none w at =
      let line = half_line scopes core other body is reads_is w in
      ap is_some (plain_at scopes.1 (string word) to other refl none)
      ∙ string_reads scopes.1 None word (out-Core other) (second_true (is_enum (out-Body body)) (is_string (out-Core other)) (where_true (is_enum (out-Body body) && is_string (out-Core other)) line))
  pick_reads word place core to other body (Some reads) is reads_is none w at =
      let lines = bodies_are scopes core other body reads is reads_is in
      ap is_some (plain_at scopes.1 (string word) to other refl none ∙ body_core scopes.1 (string word) None (out-Core other) reads reads_is)
      ∙ word_reads word place (out-Body body) (out-Body reads) at (ap is_none (sym lines) ∙ within_line scopes (([], core), ([], other)) w)

  names_read : (place : ℕ) (core : Core) (to : List Prefix) (other : Core) (body : Option Body) → body_of scopes.0 core ≡ body → behind_maybes to ≡ []
      → Within scopes (([], core), ([], other)) → nat_lt place (length (names_or_none body)) ≡ true
      → ReadsBy to other (option_map string (name_at place (names_or_none body)))
  names_read place core to other None is none w fit = absurd (omega (arith, ltb-true place 0 fit))
  names_read place core to other (Some body) is none w fit =
      let there = name_there (names_of body) place fit in
      subst (λ (o : Option Bytes). ReadsBy to other (option_map string o)) (sym there.1)
      (pick_reads there.0 place core to other body (body_of scopes.1 other) is refl none w there.1)

  -- ---- arrays and maps

  array_reads : (items : List Proved) (from : List Prefix) (core : Core) (to : List Prefix) (other : Core) → core_fault defined core ≡ None
      → Within scopes ((from, core), (to, other)) → begins_with_maybe to ≡ false → items_fit (map (fits scopes.0) (vals items)) from core ≡ true
      → is_some (reader scopes.1 (array (items_of (map (λ (writes : Writer). or_null (writes (behind_first from) core)) (map (writer scopes.0) (vals items))))) to other) ≡ true
  array_reads items (Array ∷ from) core (Array ∷ to) other h w plain fit =
      some_mapped val.Items _ (items_read items from core to other h
      (within_next scopes ((Array ∷ from, core), (Array ∷ to, other)) (word_of Array) (from, core) (to, other) refl w) fit)
  array_reads items (Array ∷ from) core (Maybe ∷ to) other h w plain fit = let no : true ≡ false = plain in absurd (cc)
  array_reads items (Array ∷ from) core to other h w plain fit = let no : true ≡ false = within_line scopes ((Array ∷ from, core), (to, other)) w in absurd (cc)
  array_reads items from core to other h w plain fit = let no : false ≡ true = fit in absurd (cc)

  map_reads : (entries : List (Bytes × Proved)) (from : List Prefix) (core : Core) (to : List Prefix) (other : Core) → core_fault defined core ≡ None
      → Within scopes ((from, core), (to, other)) → begins_with_maybe to ≡ false → entries_fit (entry_fits entries) from core ≡ true
      → is_some (reader scopes.1 (object (with_entries (behind_first from) core (writers entries) no_members)) to other) ≡ true
  map_reads entries (Map ∷ from) core (Map ∷ to) other h w plain fit =
      some_mapped val.Map _ (entries_read entries from core to other h
      (within_next scopes ((Map ∷ from, core), (Map ∷ to, other)) (word_of Map) (from, core) (to, other) refl w) fit)
  map_reads entries (Map ∷ from) core (Maybe ∷ to) other h w plain fit = let no : true ≡ false = plain in absurd (cc)
  map_reads entries (Map ∷ from) core to other h w plain fit = let no : true ≡ false = within_line scopes ((Map ∷ from, core), (to, other)) w in absurd (cc)
  map_reads entries from core to other h w plain fit = let no : false ≡ true = fit in absurd (cc)

  -- ---- all values

  by_layer : (x : Val-F Val) (from : List Prefix) (core : Core) (to : List Prefix) (other : Core)
      → (fit_step scopes.0 (map-Val Val Fit (fits scopes.0) x) from core ≡ true → ReadsBy to other (write_step scopes.0 (map-Val Val Writer (writer scopes.0) x) from core))
      → fits scopes.0 (roll-Val x) from core ≡ true → ReadsBy to other (writer scopes.0 (roll-Val x) from core)
  by_layer x from core to other reads fit =
      let written = ap (λ (writes : Writer). writes from core) (fold-roll-Val Writer (write_step scopes.0) x) in
      let fitting = ap (λ (f : Fit). f from core) (sym (fold-roll-Val Fit (fit_step scopes.0) x)) ∙ fit in
      subst (λ (o : Option Data). ReadsBy to other o) (sym written) (reads fitting)

  layer_reads : (y : Val-F Proved) → Carries (roll-Val (map-Val Proved Val (λ item. item.0) y))
  layer_reads (Val-F.Bool b) from core to other h w = by_layer (Val-F.Bool b) from core to other (λ fit.
      let kind = second_true (is_plain (behind_maybes from)) (is_bool (out-Core core)) fit in
      let pair = plain_pair scopes from core to other w (first_true (is_plain (behind_maybes from)) (is_bool (out-Core core)) fit) in
      let same = basic_same scopes core other (bool_alone scopes.0 (out-Core core) kind) pair.1 in
      ap is_some (plain_at scopes.1 (boolean b) to other refl pair.0) ∙ bool_reads scopes.1 None b (out-Core other) (ap is_bool (sym same) ∙ kind))
  layer_reads (Val-F.Int z) from core to other h w = by_layer (Val-F.Int z) from core to other (λ fit.
      let both = first_true (is_plain (behind_maybes from) && is_whole (out-Core core)) (is_int z) fit in
      let kind = second_true (is_plain (behind_maybes from)) (is_whole (out-Core core)) both in
      let pair = plain_pair scopes from core to other w (first_true (is_plain (behind_maybes from)) (is_whole (out-Core core)) both) in
      let same = basic_same scopes core other (int_alone scopes.0 (out-Core core) kind) pair.1 in
      ap is_some (plain_at scopes.1 (number (of_integer z)) to other refl pair.0)
      ∙ int_reads scopes.1 None z (out-Core other) (ap is_whole (sym same) ∙ kind) (second_true (is_plain (behind_maybes from) && is_whole (out-Core core)) (is_int z) fit))
  layer_reads (Val-F.Str s) from core to other h w = by_layer (Val-F.Str s) from core to other (λ fit.
      let kind = second_true (is_plain (behind_maybes from)) (is_text (out-Core core)) fit in
      let pair = plain_pair scopes from core to other w (first_true (is_plain (behind_maybes from)) (is_text (out-Core core)) fit) in
      let same = basic_same scopes core other (text_alone scopes.0 (out-Core core) kind) pair.1 in
      ap is_some (plain_at scopes.1 (string s) to other refl pair.0) ∙ text_reads scopes.1 None s (out-Core other) (ap is_text (sym same) ∙ kind))
  layer_reads (Val-F.Items items) from core to other h w = by_layer (Val-F.Items (vals items)) from core to other (λ fit.
      ap is_some (reader_is scopes.1 (array (items_of (map (λ (writes : Writer). or_null (writes (part_prefixes from) core)) (map (writer scopes.0) (vals items))))) refl to other)
      ∙ array_reads items (behind_maybes from) core (behind_maybes to) other h (peeled scopes from core to other w) (behind_plain to) fit)
  layer_reads (Val-F.Map entries) from core to other h w = by_layer (Val-F.Map (entry_vals entries)) from core to other (λ fit.
      ap is_some (reader_is scopes.1 (object (with_entries (part_prefixes from) core (writers entries) no_members)) refl to other)
      ∙ map_reads entries (behind_maybes from) core (behind_maybes to) other h (peeled scopes from core to other w) (behind_plain to) fit)
  layer_reads (Val-F.Struct items) from core to other h w = by_layer (Val-F.Struct (vals items)) from core to other (λ fit.
      let pair = plain_pair scopes from core to other w (first_true (is_plain (behind_maybes from)) _ fit) in
      body_reads items core to other (body_of scopes.0 core) (body_of scopes.1 other) h refl refl pair.0 pair.1 (second_true (is_plain (behind_maybes from)) _ fit))
  layer_reads (Val-F.Pick place) from core to other h w = by_layer (Val-F.Pick place) from core to other (λ fit.
      let pair = plain_pair scopes from core to other w (first_true (is_plain (behind_maybes from)) _ fit) in
      names_read place core to other (body_of scopes.0 core) refl pair.0 pair.1 (second_true (is_plain (behind_maybes from)) _ fit))
  layer_reads Val-F.Nothing from core to other h w = by_layer Val-F.Nothing from core to other (λ fit. maybe_too scopes from core to other w fit)
  layer_reads (Val-F.Foreign d) from core to other h w = by_layer (Val-F.Foreign d) from core to other (λ fit.
      let plain = is_plain (behind_maybes from) in
      let kind = is_foreign (out-Core core) in
      let three = first_true (plain && kind && is_some (as_object d)) (is_whole_tree d) fit in
      let two = first_true (plain && kind) (is_some (as_object d)) three in
      let object_here = second_true (plain && kind) (is_some (as_object d)) three in
      let here = second_true plain kind two in
      let pair = plain_pair scopes from core to other w (first_true plain kind two) in
      let same = basic_same scopes core other (foreign_alone scopes.0 (out-Core core) here) pair.1 in
      ap is_some (plain_at scopes.1 d to other (object_some d object_here) pair.0)
      ∙ foreign_reads scopes.1 (option_map (member_readers scopes.1) (as_object d)) d (out-Core other) (ap is_foreign (sym same) ∙ here) object_here
      (second_true (plain && kind && is_some (as_object d)) (is_whole_tree d) fit))

  pub carries : (v : Val) → Carries v
  carries = ind-Val Carries (λ x y is. subst (λ (z : Val-F Val). Carries (roll-Val z)) is (layer_reads y))

  pub reads : (v : Val) (from : List Prefix) (core : Core) (to : List Prefix) (other : Core) → core_fault defined core ≡ None
      → Within scopes ((from, core), (to, other)) → fits scopes.0 v from core ≡ true
      → is_some (reader scopes.1 (or_null (writer scopes.0 v from core)) to other) ≡ true
  reads v from core to other h w fit = shown_reads to other (writer scopes.0 v from core) (carries v from core to other h w fit)

  pub struct_within : (body by : Body) (v : Val) → body_fault defined body ≡ None → is_struct_layer (out-Body body) ≡ true
      → Within scopes (bodies body by) → is_of_body scopes.0 body v ≡ true → is_some (ReadsBody scopes.1 by (ShowsFields scopes.0 body v)) ≡ true
  struct_within body by v names h w fit =
      let d = ShowsFields scopes.0 body v in
      let members = option_map (member_readers scopes.1) (as_object d) in
      ap is_some (sym (ap (λ (core : Core-F Body Core Field TypeRef). core_by scopes.1 d members core) (outs-Inline by)) ∙ sym (core_reader scopes.1 d (Inline by))
      ∙ ap (λ (tree : Data). reader scopes.1 tree [] (Inline by)) (sym (shown scopes.0 body v h fit)))
      ∙ reads v [] (Inline body) [] (Inline by) (core_of_body defined body ∙ names) w fit
