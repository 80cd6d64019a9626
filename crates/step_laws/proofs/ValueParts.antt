-- the parts that a value of a type has, and values made of parts
use Rattle.std.proofs.Common.{◌≡◌, ℕ, ℤ, Bool, true, false, ◌&&◌, nat_lt, List, [], ◌∷◌, map, length, Option, Some, is_some, refl, sym, ap, ◌∙◌, subst, arith}
use Rattle.std.specs.Prelude.{slice_get}
use Rattle.std.specs.List.{list_all}
use Rattle.std.proofs.lemmas.Bool.{false≢true}
use Rattle.std.proofs.lemmas.Bool.Decides.{nat_tests}
use Rattle.idl_tree.specs.Names.{Bytes}
use Rattle.serde_json.specs.Find.{as_object}
use Rattle.idl_tree.specs.declared.trees.Interface.{Interface}
use Rattle.idl_tree.specs.declared.trees.Prefix.{Prefix}
use Rattle.idl_tree.specs.declared.trees.Prefix.TheVariants.{Array, Map, Maybe}
use Rattle.idl_tree.specs.declared.trees.Field.{Field}
use Rattle.idl_tree.specs.declared.trees.Body.{Body, out-Body}
use Rattle.idl_tree.specs.declared.trees.Core.{Core, out-Core}
use Rattle.idl_tree.specs.declared.trees.Core.TheVariants.{outs-Int, outs-Str}
use Rattle.idl_tree.specs.declared.trees.Body.TheOpen.{Body-F, Core-F}
use Rattle.typed_value.specs.Bodies.{behind_maybes, body_in, body_of, names_or_none}
use Rattle.typed_value.specs.Ints.{is_int}
use Rattle.typed_value.specs.KeyOrder.{are_in_order, is_whole_tree}
use Rattle.typed_value.specs.OfType.{Fit, fits, fit_step, is_plain, is_bool, is_whole, is_text, is_foreign, items_fit, fields_fit, struct_fits, body_fits}
use Rattle.typed_value.specs.declared.vals.Val.{Val, out-Val, map-Val}
use Rattle.typed_value.specs.declared.vals.Val.TheVariants as val
use Rattle.typed_value.specs.declared.vals.Val.TheOpen.{Val-F}
use Rattle.typed_value.proofs.Distinct.{first_true, second_true}
use Rattle.typed_value.proofs.EntriesBack.{both}
use Rattle.typed_value.proofs.Opened.{struct_opens}
use Rattle.sheet_rules.specs.Types.{Typ, behind, after_array, after_map, part_behind, array_part, map_part, int_typ, string_typ, is_int_typ, struct_in, struct_of, typ_body, struct_fields, passes, map_fits, is_of_typ}
use Rattle.sheet_rules.proofs.Folded.{array_fits, map_is}
use Rattle.rule_values.specs.Parts.{int_part, int_of, text_part, text_of, items_part, items_of, entries_part, entries_of}
use Rattle.step_laws.specs.Given.{ThereIs}
use Rattle.step_laws.proofs.Parted.{no_some, some_same, then_opened, passed, passing, plain_is, plain_found}
use Rattle.step_laws.proofs.StructValues.{CoreLayer, BodyLayer, at_layer, foreign_first}

abbrev pub Entry : Type 0
Entry = Bytes × Val

no_both : (a b : Bool) → a ≡ b → b ≡ false → a ≡ true → ⊥
no_both a b is none h = false≢true (sym none ∙ sym is ∙ h)

none_below : (place : ℕ) → nat_lt place 0 ≡ true → ⊥
none_below place h = grind (arith, nat_tests)

module _ (home : Interface) where
  abbrev fitted : Val-F Val → Val-F Fit
  fitted x = map-Val Val Fit (fits home) x

  -- a number and a text
  layer_int : (x : Val-F Val) (core : Core) → out-Core core ≡ Core-F.Int → fit_step home (fitted x) [] core ≡ true
      → ThereIs (int_part x) (λ z. Unit {0})
  layer_int (Val-F.Int z) core is h = record { value = z; is = refl; so = tt }
  layer_int (Val-F.Bool b) core is h = absurd (no_both (is_bool (out-Core core)) false (ap is_bool is) refl h)
  layer_int (Val-F.Str s) core is h = absurd (no_both (is_text (out-Core core)) false (ap is_text is) refl h)
  layer_int (Val-F.Items values) core is h = absurd (false≢true h)
  layer_int (Val-F.Map entries) core is h = absurd (false≢true h)
  layer_int (Val-F.Struct values) core is h =
      absurd (no_both _ false (ap (λ (k : CoreLayer). body_fits (body_in home k) (map (fits home) values)) is) refl h)
  layer_int (Val-F.Pick place) core is h =
      absurd (none_below place (sym (ap (λ (k : CoreLayer). nat_lt place (length (names_or_none (body_in home k)))) is) ∙ h))
  layer_int Val-F.Nothing core is h = absurd (false≢true h)
  layer_int (Val-F.Foreign d) core is h =
      absurd (no_both (is_foreign (out-Core core)) false (ap is_foreign is) refl (foreign_first (is_foreign (out-Core core)) (is_some (as_object d)) (is_whole_tree d) h))

  layer_text : (x : Val-F Val) (core : Core) → out-Core core ≡ Core-F.Str → fit_step home (fitted x) [] core ≡ true
      → ThereIs (text_part x) (λ text. Unit {0})
  layer_text (Val-F.Str s) core is h = record { value = s; is = refl; so = tt }
  layer_text (Val-F.Bool b) core is h = absurd (no_both (is_bool (out-Core core)) false (ap is_bool is) refl h)
  layer_text (Val-F.Int z) core is h = absurd (no_both (is_whole (out-Core core)) false (ap is_whole is) refl (first_true (is_whole (out-Core core)) _ h))
  layer_text (Val-F.Items values) core is h = absurd (false≢true h)
  layer_text (Val-F.Map entries) core is h = absurd (false≢true h)
  layer_text (Val-F.Struct values) core is h =
      absurd (no_both _ false (ap (λ (k : CoreLayer). body_fits (body_in home k) (map (fits home) values)) is) refl h)
  layer_text (Val-F.Pick place) core is h =
      absurd (none_below place (sym (ap (λ (k : CoreLayer). nat_lt place (length (names_or_none (body_in home k)))) is) ∙ h))
  layer_text Val-F.Nothing core is h = absurd (false≢true h)
  layer_text (Val-F.Foreign d) core is h =
      absurd (no_both (is_foreign (out-Core core)) false (ap is_foreign is) refl (foreign_first (is_foreign (out-Core core)) (is_some (as_object d)) (is_whole_tree d) h))

  -- the items of an array and the entries of a map
  all_items : (values : List Val) (prefixes : List Prefix) (core : Core)
      → list_all (λ (fit : Fit). fit prefixes core) (map (fits home) values) ≡ list_all (λ (v : Val). fits home v prefixes core) values
  all_items [] prefixes core = refl
  all_items (v ∷ values) prefixes core = ap (λ (rest : Bool). fits home v prefixes core && rest) (all_items values prefixes core)

  layer_items : (x : Val-F Val) (prefixes : List Prefix) (core : Core) → fit_step home (fitted x) (Array ∷ prefixes) core ≡ true
      → ThereIs (items_part x) (λ values. list_all (λ (v : Val). fits home v prefixes core) values ≡ true)
  layer_items (Val-F.Items values) prefixes core h = record { value = values; is = refl; so = sym (all_items values prefixes core) ∙ h }
  layer_items (Val-F.Bool b) prefixes core h = absurd (false≢true h)
  layer_items (Val-F.Int z) prefixes core h = absurd (false≢true h)
  layer_items (Val-F.Str s) prefixes core h = absurd (false≢true h)
  layer_items (Val-F.Map entries) prefixes core h = absurd (false≢true h)
  layer_items (Val-F.Struct values) prefixes core h = absurd (false≢true h)
  layer_items (Val-F.Pick place) prefixes core h = absurd (false≢true h)
  layer_items Val-F.Nothing prefixes core h = absurd (false≢true h)
  layer_items (Val-F.Foreign d) prefixes core h = absurd (false≢true h)

  abbrev folded : Entry → Bytes × Fit
  folded entry = (entry.0, fits home entry.1)

  all_keys : (entries : List Entry) → map (λ (entry : Bytes × Fit). entry.0) (map folded entries) ≡ map (λ (entry : Entry). entry.0) entries
  all_keys [] = refl
  all_keys (entry ∷ entries) = ap (λ (keys : List Bytes). entry.0 ∷ keys) (all_keys entries)

  all_entries : (entries : List Entry) (prefixes : List Prefix) (core : Core)
      → list_all (λ (entry : Bytes × Fit). entry.1 prefixes core) (map folded entries) ≡ list_all (λ (entry : Entry). fits home entry.1 prefixes core) entries
  all_entries [] prefixes core = refl
  all_entries (entry ∷ entries) prefixes core =
      ap (λ (rest : Bool). fits home entry.1 prefixes core && rest) (all_entries entries prefixes core)

  -- keys in order, and values of the type
  pub record RowsFit (entries : List Entry) (prefixes : List Prefix) (core : Core) : Type 0 where
    pub order : are_in_order (map (λ (entry : Entry). entry.0) entries) ≡ true
    pub each : list_all (λ (entry : Entry). fits home entry.1 prefixes core) entries ≡ true

  layer_entries : (x : Val-F Val) (prefixes : List Prefix) (core : Core) → fit_step home (fitted x) (Map ∷ prefixes) core ≡ true
      → ThereIs (entries_part x) (λ entries. RowsFit entries prefixes core)
  layer_entries (Val-F.Map entries) prefixes core h =
      let keys = map (λ (entry : Bytes × Fit). entry.0) (map folded entries) in
      record {
        value = entries;
        is = refl;
        so = record {
          order = ap are_in_order (sym (all_keys entries)) ∙ first_true (are_in_order keys) _ h;
          each = sym (all_entries entries prefixes core) ∙ second_true (are_in_order keys) _ h;
        };
      }
  layer_entries (Val-F.Bool b) prefixes core h = absurd (false≢true h)
  layer_entries (Val-F.Int z) prefixes core h = absurd (false≢true h)
  layer_entries (Val-F.Str s) prefixes core h = absurd (false≢true h)
  layer_entries (Val-F.Items values) prefixes core h = absurd (false≢true h)
  layer_entries (Val-F.Struct values) prefixes core h = absurd (false≢true h)
  layer_entries (Val-F.Pick place) prefixes core h = absurd (false≢true h)
  layer_entries Val-F.Nothing prefixes core h = absurd (false≢true h)
  layer_entries (Val-F.Foreign d) prefixes core h = absurd (false≢true h)

  opened_at : (v : Val) (prefixes : List Prefix) (core : Core) → fits home v prefixes core ≡ true → fit_step home (fitted (out-Val v)) prefixes core ≡ true
  opened_at v prefixes core h = sym (at_layer home v (out-Val v) refl prefixes core) ∙ h

-- the type behind one prefix
pub record IsPart (first : Prefix) (t part : Typ) : Type 0 where
  pub rest : List Prefix
  pub is : t.prefixes ≡ first ∷ rest
  pub so : behind t rest ≡ part

array_at : (prefixes : List Prefix) (t part : Typ) → t.prefixes ≡ prefixes → part_behind t (after_array prefixes) ≡ Some part → IsPart Array t part
array_at (Array ∷ prefixes) t part at is = record { rest = prefixes; is = at; so = some_same (behind t prefixes) part is }
array_at [] t part at is = absurd (no_some part is)
array_at (Map ∷ prefixes) t part at is = absurd (no_some part is)
array_at (Maybe ∷ prefixes) t part at is = absurd (no_some part is)

map_at : (prefixes : List Prefix) (t part : Typ) → t.prefixes ≡ prefixes → part_behind t (after_map prefixes) ≡ Some part → IsPart Map t part
map_at (Map ∷ prefixes) t part at is = record { rest = prefixes; is = at; so = some_same (behind t prefixes) part is }
map_at [] t part at is = absurd (no_some part is)
map_at (Array ∷ prefixes) t part at is = absurd (no_some part is)
map_at (Maybe ∷ prefixes) t part at is = absurd (no_some part is)

pub array_opened : (t part : Typ) → array_part t ≡ Some part → IsPart Array t part
array_opened t part is = array_at t.prefixes t part refl is

pub map_opened_at : (t part : Typ) → map_part t ≡ Some part → IsPart Map t part
map_opened_at t part is = map_at t.prefixes t part refl is

fields_back : (body : BodyLayer) (fields : List Field) (values : List Fit) → struct_in body ≡ Some fields
    → fields_fit fields values ≡ true → struct_fits body values ≡ true
fields_back (Body-F.Struct others ending) fields values is h =
    subst (λ (all : List Field). fields_fit all values ≡ true) (sym (some_same others fields is)) h
fields_back (Body-F.Enum names ending) fields values is h = absurd (no_some fields is)

plain_more : (prefixes : List Prefix) → is_plain prefixes ≡ true → is_plain (behind_maybes prefixes) ≡ true
plain_more [] h = refl
plain_more (prefix ∷ prefixes) h = absurd (false≢true h)

module _ (interfaces : List Interface) where
  abbrev pub all_of_typ : Typ → List Val → Bool
  all_of_typ t values = list_all (is_of_typ interfaces t) values

  -- a map's keys are in order, and its values of the type
  pub record AreRows (t : Typ) (entries : List Entry) : Type 0 where
    pub order : are_in_order (map (λ (entry : Entry). entry.0) entries) ≡ true
    pub each : list_all (λ (entry : Entry). is_of_typ interfaces t entry.1) entries ≡ true

  pub all_at : (t : Typ) (home : Interface) (values : List Val) → slice_get interfaces t.scope ≡ Some home
      → all_of_typ t values ≡ list_all (λ (v : Val). fits home v t.prefixes t.core) values
  all_at t home values is =
      ap (λ (o : Option Interface). list_all (λ (v : Val). passes (λ (scope : Interface). fits scope v t.prefixes t.core) o) values) is

  each_at : (t : Typ) (home : Interface) (entries : List Entry) → slice_get interfaces t.scope ≡ Some home
      → list_all (λ (entry : Entry). is_of_typ interfaces t entry.1) entries ≡ list_all (λ (entry : Entry). fits home entry.1 t.prefixes t.core) entries
  each_at t home entries is =
      ap (λ (o : Option Interface). list_all (λ (entry : Entry). passes (λ (scope : Interface). fits scope entry.1 t.prefixes t.core) o) entries) is

  pub int_given : (scope : ℕ) (v : Val) → is_of_typ interfaces (int_typ scope) v ≡ true → ThereIs (int_of v) (λ z. Unit {0})
  int_given scope v of =
      let t = int_typ scope in
      let home = passed (λ (home : Interface). fits home v t.prefixes t.core) (slice_get interfaces scope) of in
      layer_int home.value (out-Val v) t.core outs-Int (opened_at home.value v t.prefixes t.core home.so)

  pub text_given : (scope : ℕ) (v : Val) → is_of_typ interfaces (string_typ scope) v ≡ true → ThereIs (text_of v) (λ text. Unit {0})
  text_given scope v of =
      let t = string_typ scope in
      let home = passed (λ (home : Interface). fits home v t.prefixes t.core) (slice_get interfaces scope) of in
      layer_text home.value (out-Val v) t.core outs-Str (opened_at home.value v t.prefixes t.core home.so)

  pub items_given : (t part : Typ) (v : Val) → array_part t ≡ Some part → is_of_typ interfaces t v ≡ true
      → ThereIs (items_of v) (λ values. all_of_typ part values ≡ true)
  items_given t part v at of =
      let home = passed (λ (home : Interface). fits home v t.prefixes t.core) (slice_get interfaces t.scope) of in
      let behind_it = array_opened t part at in
      let fit = subst (λ (prefixes : List Prefix). fits home.value v prefixes t.core ≡ true) behind_it.is home.so in
      let items = layer_items home.value (out-Val v) behind_it.rest t.core (opened_at home.value v (Array ∷ behind_it.rest) t.core fit) in
      record {
        value = items.value;
        is = items.is;
        so = subst (λ (x : Typ). all_of_typ x items.value ≡ true) behind_it.so
            (all_at (behind t behind_it.rest) home.value items.value home.is ∙ items.so);
      }

  pub entries_given : (t part : Typ) (v : Val) → map_part t ≡ Some part → is_of_typ interfaces t v ≡ true
      → ThereIs (entries_of v) (λ entries. AreRows part entries)
  entries_given t part v at of =
      let home = passed (λ (home : Interface). fits home v t.prefixes t.core) (slice_get interfaces t.scope) of in
      let behind_it = map_opened_at t part at in
      let fit = subst (λ (prefixes : List Prefix). fits home.value v prefixes t.core ≡ true) behind_it.is home.so in
      let entries = layer_entries home.value (out-Val v) behind_it.rest t.core (opened_at home.value v (Map ∷ behind_it.rest) t.core fit) in
      record {
        value = entries.value;
        is = entries.is;
        so = subst (λ (x : Typ). AreRows x entries.value) behind_it.so (record {
          order = entries.so.order;
          each = each_at (behind t behind_it.rest) home.value entries.value home.is ∙ entries.so.each;
        });
      }

  of_home : (t : Typ) (home : Interface) (v : Val) → slice_get interfaces t.scope ≡ Some home → fits home v t.prefixes t.core ≡ true
      → is_of_typ interfaces t v ≡ true
  of_home t home v is h = passing (λ (scope : Interface). fits scope v t.prefixes t.core) (slice_get interfaces t.scope) home is h

  pub int_made : (t : Typ) (home : Interface) (z : ℤ) → slice_get interfaces t.scope ≡ Some home → is_int_typ t ≡ true → is_int z ≡ true
      → is_of_typ interfaces t (val.Int z) ≡ true
  int_made t home z is int h = of_home t home (val.Int z) is
      (at_layer home (val.Int z) (Val-F.Int z) (val.outs-Int z) t.prefixes t.core
      ∙ both (is_plain (behind_maybes t.prefixes) && is_whole (out-Core t.core)) (is_int z)
      (both (is_plain (behind_maybes t.prefixes)) (is_whole (out-Core t.core)) (plain_more t.prefixes (first_true (is_plain t.prefixes) _ int))
      (second_true (is_plain t.prefixes) _ int)) h)

  pub items_made : (t part : Typ) (home : Interface) (values : List Val) → slice_get interfaces t.scope ≡ Some home → array_part t ≡ Some part
      → all_of_typ part values ≡ true → is_of_typ interfaces t (val.Items values) ≡ true
  items_made t part home values is at all =
      let behind_it = array_opened t part at in
      let fit = sym (all_at (behind t behind_it.rest) home values is)
      ∙ subst (λ (x : Typ). all_of_typ x values ≡ true) (sym behind_it.so) all in
      of_home t home (val.Items values) is
      (array_fits home values t.prefixes t.core
      ∙ ap (λ (prefixes : List Prefix). items_fit (map (fits home) values) (behind_maybes prefixes) t.core) behind_it.is
      ∙ all_items home values behind_it.rest t.core ∙ fit)

  pub map_made : (t part : Typ) (home : Interface) (entries : List Entry) → slice_get interfaces t.scope ≡ Some home → map_part t ≡ Some part
      → AreRows part entries → is_of_typ interfaces t (val.Map entries) ≡ true
  map_made t part home entries is at rows =
      let behind_it = map_opened_at t part at in
      let old = subst (λ (x : Typ). AreRows x entries) (sym behind_it.so) rows in
      of_home t home (val.Map entries) is
      (map_is home entries t.prefixes t.core
      ∙ ap (λ (prefixes : List Prefix). map_fits home entries (behind_maybes prefixes) t.core) behind_it.is
      ∙ both (are_in_order (map (λ (entry : Entry). entry.0) entries)) _ old.order (sym (each_at (behind t behind_it.rest) home entries is) ∙ old.each))

  struct_made_at : (home : Interface) (core : Core) (body : Body) (fields : List Field) (values : List Val) → body_of home core ≡ Some body
      → struct_of body ≡ Some fields → fields_fit fields (map (fits home) values) ≡ true → fits home (val.Struct values) [] core ≡ true
  struct_made_at home core body fields values is struct h =
      ap (λ (fit : Fit). fit [] core) (struct_opens Fit (fit_step home) values)
      ∙ ap (λ (o : Option Body). body_fits o (map (fits home) values)) is ∙ fields_back (out-Body body) fields (map (fits home) values) struct h

  pub struct_made : (t : Typ) (home : Interface) (fields : List Field) (values : List Val) → slice_get interfaces t.scope ≡ Some home
      → struct_fields interfaces t ≡ Some fields → fields_fit fields (map (fits home) values) ≡ true → is_of_typ interfaces t (val.Struct values) ≡ true
  struct_made t home fields values is at h =
      let body = then_opened struct_of (typ_body interfaces t) fields at in
      let scope = then_opened (λ (scope : Interface). body_of scope t.core) (slice_get interfaces t.scope) body.value (plain_found t.prefixes _ body.value body.is) in
      let same = some_same scope.value home (sym scope.is ∙ is) in
      let of = subst (λ (x : Interface). body_of x t.core ≡ Some body.value) same scope.so in
      of_home t home (val.Struct values) is
      (subst (λ (prefixes : List Prefix). fits home (val.Struct values) prefixes t.core ≡ true) (sym (plain_is t.prefixes _ body.value body.is))
      (struct_made_at home t.core body.value fields values of body.so h))
