-- The tree that shows a value of a type can be written so that its text stands for it alone.
use Rattle.std.proofs.Common.{◌≡◌, ℕ, ◌<◌, ◌^◌, Bool, true, false, ◌&&◌, List, [], ◌∷◌, map, Option, Some, None, option_map, is_some, ℤ, pos, negsuc, nat_lt, cond, nat_cmp, refl, sym, subst, ap, ◌∙◌, arith, ltb-true}
use Rattle.std.specs.List.{list_all}
use Rattle.std.specs.Ordering.{is_lt}
use Rattle.std.specs.Cmp.Lexicographic.{slice_cmp}
use Rattle.serde_json.specs.Data.{Num, unsigned, negative, float, Data, null, boolean, number, string, array, object, Items, no_items, item, Members, no_members, member, put}
use Rattle.serde_json.specs.Find.{of_integer, as_object}
use Rattle.serde_json.specs.View.{items_of}
use Rattle.link_port.specs.SoundTrees.{IsWhole, AreBehind, IsSound, AreSoundItems, AreSoundMembers}
use Rattle.idl_tree.specs.Names.{Bytes}
use Rattle.idl_tree.specs.declared.trees.Interface.{Interface}
use Rattle.idl_tree.specs.declared.trees.Prefix.{Prefix}
use Rattle.idl_tree.specs.declared.trees.Prefix.TheVariants.{Array, Map, Maybe}
use Rattle.idl_tree.specs.declared.trees.Field.{Field}
use Rattle.idl_tree.specs.declared.trees.TypeRef.{TypeRef}
use Rattle.idl_tree.specs.declared.trees.Body.{Body, out-Body}
use Rattle.idl_tree.specs.declared.trees.Body.TheOpen.{Body-F}
use Rattle.idl_tree.specs.declared.trees.Core.{Core, out-Core}
use Rattle.typed_value.specs.Bodies.{behind_maybes, behind_first, part_prefixes, body_of, fields_in, fields_of, fields_or_none, names_or_none}
use Rattle.typed_value.specs.Ints.{is_int, int_of, has_only_ints, items_have_only_ints, members_have_only_ints}
use Rattle.typed_value.specs.KeyOrder.{is_before_all, member_keys, has_sign_below_zero, is_as_read, items_are_as_read, members_are_as_read, is_whole_tree, are_in_order}
use Rattle.typed_value.specs.OfType.{Fit, fits, fit_step, is_plain, is_foreign, is_whole, items_fit, entries_fit, fields_fit, struct_fits, body_fits}
use Rattle.typed_value.specs.Shows.{Writer, write_step, writer, or_null, name_at, with_entries, with_written, with_fields}
use Rattle.typed_value.specs.declared.vals.Val.{Val, roll-Val, map-Val}
use Rattle.typed_value.specs.declared.vals.Val.TheOpen.{Val-F}
use Rattle.typed_value.specs.declared.vals.Val.TheFolds.{ind-Val, fold-roll-Val}
use Rattle.typed_value.proofs.Distinct.{first_true, second_true}
use Rattle.typed_value.proofs.EntriesBack.{less_is}
use Rattle.value_laws.proofs.OrderedPuts.{put_sound, swap_less}

-- ---- foreign data

small : (n : ℕ) → nat_lt n (2 ^ 63) ≡ true → n < 2 ^ 63
small n h = ltb-true n (2 ^ 63) h

whole_integer : (z : ℤ) → is_int z ≡ true → IsWhole (of_integer z)
whole_integer (pos n) h = let below : n < 2 ^ 63 = small n h in omega arith
whole_integer (negsuc n) h = small n h

some_if : (b : Bool) (z : ℤ) → is_some (cond b (Some z) None) ≡ true → b ≡ true
some_if true z h = refl
some_if false z h = h

whole_number : (n : Num) → is_some (int_of n) ≡ true → has_sign_below_zero n ≡ true → IsWhole n
whole_number (unsigned n) h sign = let below : n < 2 ^ 63 = small n (some_if (is_int (pos n)) (pos n) h) in omega arith
whole_number (negative (pos n)) h sign = let no : false ≡ true = sign in absurd (cc)
whole_number (negative (negsuc n)) h sign = small n (some_if (is_int (negsuc n)) (negsuc n) h)
whole_number (float x) h sign = let no : false ≡ true = h in absurd (cc)

behind_all : (key : Bytes) (ms : Members) → is_before_all key (member_keys ms) ≡ true → AreBehind key ms
behind_all key no_members h = tt
behind_all key (member next d ms) h =
    let less = less_is (slice_cmp nat_cmp key next) (first_true (is_lt (slice_cmp nat_cmp key next)) (is_before_all key (member_keys ms)) h) in
    (swap_less key next less, behind_all key ms (second_true (is_lt (slice_cmp nat_cmp key next)) (is_before_all key (member_keys ms)) h))

mutual
  pub tree_sound : (d : Data) → has_only_ints d ≡ true → is_as_read d ≡ true → IsSound d
  tree_sound null h as_read = tt
  tree_sound (boolean b) h as_read = tt
  tree_sound (number n) h as_read = whole_number n h as_read
  tree_sound (string s) h as_read = tt
  tree_sound (array ds) h as_read = items_sound ds h as_read
  tree_sound (object ms) h as_read = members_sound ms h as_read

  items_sound : (ds : Items) → items_have_only_ints ds ≡ true → items_are_as_read ds ≡ true → AreSoundItems ds
  items_sound no_items h as_read = tt
  items_sound (item d ds) h as_read = (
    tree_sound d (first_true (has_only_ints d) (items_have_only_ints ds) h) (first_true (is_as_read d) (items_are_as_read ds) as_read),
    items_sound ds (second_true (has_only_ints d) (items_have_only_ints ds) h) (second_true (is_as_read d) (items_are_as_read ds) as_read),
  )

  members_sound : (ms : Members) → members_have_only_ints ms ≡ true → members_are_as_read ms ≡ true → AreSoundMembers ms
  members_sound no_members h as_read = tt
  members_sound (member k d ms) h as_read =
      let later = second_true (is_before_all k (member_keys ms)) (is_as_read d && members_are_as_read ms) as_read in (
        behind_all k ms (first_true (is_before_all k (member_keys ms)) (is_as_read d && members_are_as_read ms) as_read),
        tree_sound d (first_true (has_only_ints d) (members_have_only_ints ms) h) (first_true (is_as_read d) (members_are_as_read ms) later),
        members_sound ms (second_true (has_only_ints d) (members_have_only_ints ms) h) (second_true (is_as_read d) (members_are_as_read ms) later),
      )

-- ---- values

written_sound : (name : Bytes) (o : Option Data) (ms : Members) → IsSound (or_null o) → AreSoundMembers ms → AreSoundMembers (with_written name o ms)
written_sound name None ms sound h = h
written_sound name (Some d) ms sound h = put_sound name d ms sound h

picked_sound : (o : Option Bytes) → IsSound (or_null (option_map string o))
picked_sound None = tt
picked_sound (Some s) = tt

module _ (scope : Interface) where
  abbrev IsSoundShown : Val → Type 0
  IsSoundShown v = (prefixes : List Prefix) (core : Core) → fits scope v prefixes core ≡ true → IsSound (or_null (writer scope v prefixes core))

  abbrev Proved : Type 0
  Proved = (v : Val) × IsSoundShown v

  abbrev vals : List Proved → List Val
  vals items = map (λ (part : Proved). part.0) items

  abbrev entry_vals : List (Bytes × Proved) → List (Bytes × Val)
  entry_vals entries = map (λ (entry : Bytes × Proved). (entry.0, entry.1.0)) entries

  abbrev writers : List (Bytes × Proved) → List (Bytes × Writer)
  writers entries = map (λ (entry : Bytes × Val). (entry.0, writer scope entry.1)) (entry_vals entries)

  abbrev entry_fits : List (Bytes × Proved) → List (Bytes × Fit)
  entry_fits entries = map (λ (entry : Bytes × Val). (entry.0, fits scope entry.1)) (entry_vals entries)

  each_sound : (items : List Proved) (prefixes : List Prefix) (core : Core) → list_all (λ (fit : Fit). fit prefixes core) (map (fits scope) (vals items)) ≡ true
      → AreSoundItems (items_of (map (λ (writes : Writer). or_null (writes prefixes core)) (map (writer scope) (vals items))))
  each_sound [] prefixes core h = tt
  each_sound (part ∷ items) prefixes core h =
      (part.1 prefixes core (first_true (fits scope part.0 prefixes core) _ h), each_sound items prefixes core (second_true (fits scope part.0 prefixes core) _ h))

  array_sound : (items : List Proved) (prefixes : List Prefix) (core : Core) → items_fit (map (fits scope) (vals items)) prefixes core ≡ true
      → AreSoundItems (items_of (map (λ (writes : Writer). or_null (writes (behind_first prefixes) core)) (map (writer scope) (vals items))))
  array_sound items (Array ∷ prefixes) core h = each_sound items prefixes core h
  array_sound items (Map ∷ prefixes) core h = let no : false ≡ true = h in absurd (cc)
  array_sound items (Maybe ∷ prefixes) core h = let no : false ≡ true = h in absurd (cc)
  array_sound items [] core h = let no : false ≡ true = h in absurd (cc)

  rows_sound : (entries : List (Bytes × Proved)) (prefixes : List Prefix) (core : Core) (ms : Members)
      → list_all (λ (entry : Bytes × Fit). entry.1 prefixes core) (entry_fits entries) ≡ true → AreSoundMembers ms
      → AreSoundMembers (with_entries prefixes core (writers entries) ms)
  rows_sound [] prefixes core ms h sound = sound
  rows_sound (entry ∷ entries) prefixes core ms h sound =
      let d = or_null (writer scope entry.1.0 prefixes core) in
      let here = entry.1.1 prefixes core (first_true (fits scope entry.1.0 prefixes core) _ h) in
      rows_sound entries prefixes core (put entry.0 d ms) (second_true (fits scope entry.1.0 prefixes core) _ h) (put_sound entry.0 d ms here sound)

  map_sound : (entries : List (Bytes × Proved)) (prefixes : List Prefix) (core : Core) → entries_fit (entry_fits entries) prefixes core ≡ true
      → AreSoundMembers (with_entries (behind_first prefixes) core (writers entries) no_members)
  map_sound entries (Map ∷ prefixes) core h =
      rows_sound entries prefixes core no_members (second_true (are_in_order (map (λ (entry : Bytes × Fit). entry.0) (entry_fits entries))) _ h) tt
  map_sound entries (Array ∷ prefixes) core h = let no : false ≡ true = h in absurd (cc)
  map_sound entries (Maybe ∷ prefixes) core h = let no : false ≡ true = h in absurd (cc)
  map_sound entries [] core h = let no : false ≡ true = h in absurd (cc)

  fields_sound : (fields : List Field) (items : List Proved) (ms : Members) → fields_fit fields (map (fits scope) (vals items)) ≡ true → AreSoundMembers ms
      → AreSoundMembers (with_fields fields (map (writer scope) (vals items)) ms)
  fields_sound [] items ms h sound = sound
  fields_sound (field ∷ fields) [] ms h sound = sound
  fields_sound (field ∷ fields) (part ∷ items) ms h sound =
      let o = writer scope part.0 field.of.prefixes field.of.core in
      let fit = first_true (fits scope part.0 field.of.prefixes field.of.core) _ h in
      fields_sound fields items (with_written field.name o ms) (second_true (fits scope part.0 field.of.prefixes field.of.core) _ h)
      (written_sound field.name o ms (part.1 field.of.prefixes field.of.core fit) sound)

  struct_sound : (body : Body-F Body Core Field TypeRef) (items : List Proved) → struct_fits body (map (fits scope) (vals items)) ≡ true
      → AreSoundMembers (with_fields (fields_in body) (map (writer scope) (vals items)) no_members)
  struct_sound (Body-F.Struct fields ending) items h = fields_sound fields items no_members h tt
  struct_sound (Body-F.Enum names ending) items h = let no : false ≡ true = h in absurd (cc)

  body_sound : (body : Option Body) (items : List Proved) → body_fits body (map (fits scope) (vals items)) ≡ true
      → AreSoundMembers (with_fields (fields_or_none body) (map (writer scope) (vals items)) no_members)
  body_sound None items h = let no : false ≡ true = h in absurd (cc)
  body_sound (Some body) items h = struct_sound (out-Body body) items h

  layer_sound : (y : Val-F Proved) (prefixes : List Prefix) (core : Core)
      → fit_step scope (map-Val Val Fit (fits scope) (map-Val Proved Val (λ part. part.0) y)) prefixes core ≡ true
      → IsSound (or_null (write_step scope (map-Val Val Writer (writer scope) (map-Val Proved Val (λ part. part.0) y)) prefixes core))
  layer_sound (Val-F.Bool b) prefixes core h = tt
  layer_sound (Val-F.Int z) prefixes core h =
      whole_integer z (second_true (is_plain (behind_maybes prefixes) && is_whole (out-Core core)) (is_int z) h)
  layer_sound (Val-F.Str s) prefixes core h = tt
  layer_sound (Val-F.Items items) prefixes core h = array_sound items (behind_maybes prefixes) core h
  layer_sound (Val-F.Map entries) prefixes core h = map_sound entries (behind_maybes prefixes) core h
  layer_sound (Val-F.Struct items) prefixes core h = body_sound (body_of scope core) items (second_true (is_plain (behind_maybes prefixes)) _ h)
  layer_sound (Val-F.Pick place) prefixes core h = picked_sound (name_at place (names_or_none (body_of scope core)))
  layer_sound Val-F.Nothing prefixes core h = tt
  layer_sound (Val-F.Foreign d) prefixes core h =
      let whole = second_true (is_plain (behind_maybes prefixes) && is_foreign (out-Core core) && is_some (as_object d)) (is_whole_tree d) h in
      tree_sound d (first_true (has_only_ints d) (is_as_read d) whole) (second_true (has_only_ints d) (is_as_read d) whole)

  pub shows_sound : (v : Val) → IsSoundShown v
  shows_sound = ind-Val IsSoundShown (λ x y is. subst (λ (z : Val-F Val). IsSoundShown (roll-Val z)) is (λ prefixes core h.
      let z = map-Val Proved Val (λ part. part.0) y in
      rw (fold-roll-Val Writer (write_step scope) z) (layer_sound y prefixes core
      (ap (λ (f : Fit). f prefixes core) (sym (fold-roll-Val Fit (fit_step scope) z)) ∙ h))))
