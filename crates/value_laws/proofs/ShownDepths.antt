-- The tree that shows a value is no deeper than the value.
use Rattle.std.proofs.Common.{◌≡◌, ℕ, suc, ◌≤◌, max, List, [], ◌∷◌, map, Option, Some, None, Ordering, Less, Equal, Greater, option_map, nat_cmp, subst, sym, ap, arith}
use Rattle.std.specs.Ordering.{match_ordering}
use Rattle.std.specs.Cmp.Lexicographic.{slice_cmp}
use Rattle.serde_json.specs.Data.{Data, array, object, string, Members, no_members, member, put, depth, items_depth, members_depth}
use Rattle.serde_json.specs.View.{items_of}
use Rattle.idl_tree.specs.Form.{greatest}
use Rattle.idl_tree.specs.Names.{Bytes}
use Rattle.idl_tree.specs.declared.trees.Interface.{Interface}
use Rattle.idl_tree.specs.declared.trees.Prefix.{Prefix}
use Rattle.idl_tree.specs.declared.trees.Field.{Field}
use Rattle.idl_tree.specs.declared.trees.Core.{Core}
use Rattle.idl_tree.specs.declared.trees.Body.{Body}
use Rattle.typed_value.specs.Bodies.{part_prefixes, body_of, fields_or_none, names_or_none, fields_of}
use Rattle.typed_value.specs.Shows.{Writer, write_step, writer, or_null, name_at, with_entries, with_written, with_fields, ShowsFields, shows_struct}
use Rattle.typed_value.specs.Sizes.{level_step, levels_of}
use Rattle.typed_value.specs.declared.vals.Val.{Val, out-Val, roll-Val, map-Val}
use Rattle.typed_value.specs.declared.vals.Val.TheOpen.{Val-F}
use Rattle.typed_value.specs.declared.vals.Val.TheFolds.{ind-Val, fold-roll-Val, fold_out-Val}

put_by : (o : Ordering) (n : ℕ) (a b c : Members) → members_depth a ≤ n → members_depth b ≤ n → members_depth c ≤ n → members_depth (match_ordering o a b c) ≤ n
put_by Less n a b c ha hb hc = ha
put_by Equal n a b c ha hb hc = hb
put_by Greater n a b c ha hb hc = hc

put_deep : (k : Bytes) (d : Data) (ms : Members) → members_depth (put k d ms) ≤ max (depth d) (members_depth ms)
put_deep k d no_members = omega arith
put_deep k d (member l e ms) =
    put_by (slice_cmp nat_cmp k l) _ (member k d (member l e ms)) (member l d ms) (member l e (put k d ms))
    (omega arith) (omega arith) (omega (arith, put_deep k d ms))

written_deep : (name : Bytes) (o : Option Data) (ms : Members) → members_depth (with_written name o ms) ≤ max (depth (or_null o)) (members_depth ms)
written_deep name None ms = omega arith
written_deep name (Some d) ms = put_deep name d ms

picked_deep : (o : Option Bytes) → depth (or_null (option_map string o)) ≤ 0
picked_deep None = omega arith
picked_deep (Some s) = omega arith

module _ (scope : Interface) where
  abbrev NoDeeper : Val → Type 0
  NoDeeper v = (prefixes : List Prefix) (core : Core) → depth (or_null (writer scope v prefixes core)) ≤ levels_of v

  abbrev Proved : Type 0
  Proved = (v : Val) × NoDeeper v

  abbrev vals : List Proved → List Val
  vals items = map (λ (item : Proved). item.0) items

  abbrev entry_vals : List (Bytes × Proved) → List (Bytes × Val)
  entry_vals entries = map (λ (entry : Bytes × Proved). (entry.0, entry.1.0)) entries

  abbrev entry_levels : List (Bytes × Proved) → List ℕ
  entry_levels entries = map (λ (entry : Bytes × ℕ). entry.1) (map (λ (entry : Bytes × Val). (entry.0, levels_of entry.1)) (entry_vals entries))

  items_deep : (items : List Proved) (prefixes : List Prefix) (core : Core)
      → items_depth (items_of (map (λ (writes : Writer). or_null (writes prefixes core)) (map (writer scope) (vals items)))) ≤ greatest (map levels_of (vals items))
  items_deep [] prefixes core = omega arith
  items_deep (item ∷ items) prefixes core = omega (arith, item.1 prefixes core, items_deep items prefixes core)

  entries_deep : (entries : List (Bytes × Proved)) (prefixes : List Prefix) (core : Core) (ms : Members)
      → members_depth (with_entries prefixes core (map (λ (entry : Bytes × Val). (entry.0, writer scope entry.1)) (entry_vals entries)) ms)
      ≤ max (members_depth ms) (greatest (entry_levels entries))
  entries_deep [] prefixes core ms = omega arith
  entries_deep (entry ∷ entries) prefixes core ms =
      let d = or_null (writer scope entry.1.0 prefixes core) in
      omega (arith, entry.1.1 prefixes core, put_deep entry.0 d ms, entries_deep entries prefixes core (put entry.0 d ms))

  fields_deep : (fields : List Field) (items : List Proved) (ms : Members)
      → members_depth (with_fields fields (map (writer scope) (vals items)) ms) ≤ max (members_depth ms) (greatest (map levels_of (vals items)))
  fields_deep [] items ms = omega arith
  fields_deep (field ∷ fields) [] ms = omega arith
  fields_deep (field ∷ fields) (item ∷ items) ms =
      let o = writer scope item.0 field.of.prefixes field.of.core in
      omega (arith, item.1 field.of.prefixes field.of.core, written_deep field.name o ms, fields_deep fields items (with_written field.name o ms))

  layer_deep : (y : Val-F Proved) (prefixes : List Prefix) (core : Core)
      → depth (or_null (write_step scope (map-Val Val Writer (writer scope) (map-Val Proved Val (λ item. item.0) y)) prefixes core))
      ≤ level_step (map-Val Val ℕ levels_of (map-Val Proved Val (λ item. item.0) y))
  layer_deep (Val-F.Bool b) prefixes core = omega arith
  layer_deep (Val-F.Int z) prefixes core = omega arith
  layer_deep (Val-F.Str s) prefixes core = omega arith
  layer_deep (Val-F.Items items) prefixes core = omega (arith, items_deep items (part_prefixes prefixes) core)
  layer_deep (Val-F.Map entries) prefixes core = omega (arith, entries_deep entries (part_prefixes prefixes) core no_members)
  layer_deep (Val-F.Struct items) prefixes core = omega (arith, fields_deep (fields_or_none (body_of scope core)) items no_members)
  layer_deep (Val-F.Pick place) prefixes core = picked_deep (name_at place (names_or_none (body_of scope core)))
  layer_deep Val-F.Nothing prefixes core = omega arith
  layer_deep (Val-F.Foreign d) prefixes core = omega arith

  pub shows_no_deeper : (v : Val) → NoDeeper v
  shows_no_deeper = ind-Val NoDeeper (λ x y is. subst (λ (z : Val-F Val). NoDeeper (roll-Val z)) is (λ prefixes core.
      let z = map-Val Proved Val (λ item. item.0) y in
      rw (fold-roll-Val Writer (write_step scope) z, fold-roll-Val ℕ level_step z) (layer_deep y prefixes core)))

  struct_deep : (fields : List Field) (values : List Val) (ms : Members)
      → members_depth (with_fields fields (map (writer scope) values) ms) ≤ max (members_depth ms) (greatest (map levels_of values))
  struct_deep [] values ms = omega arith
  struct_deep (field ∷ fields) [] ms = omega arith
  struct_deep (field ∷ fields) (v ∷ values) ms =
      let o = writer scope v field.of.prefixes field.of.core in
      omega (arith, shows_no_deeper v field.of.prefixes field.of.core, written_deep field.name o ms, struct_deep fields values (with_written field.name o ms))

  layer_struct_deep : (fields : List Field) (x : Val-F Val) → depth (shows_struct scope fields x) ≤ level_step (map-Val Val ℕ levels_of x)
  layer_struct_deep fields (Val-F.Struct values) = omega (arith, struct_deep fields values no_members)
  layer_struct_deep fields (Val-F.Bool b) = omega arith
  layer_struct_deep fields (Val-F.Int z) = omega arith
  layer_struct_deep fields (Val-F.Str s) = omega arith
  layer_struct_deep fields (Val-F.Items values) = omega arith
  layer_struct_deep fields (Val-F.Map entries) = omega arith
  layer_struct_deep fields (Val-F.Pick place) = omega arith
  layer_struct_deep fields Val-F.Nothing = omega arith
  layer_struct_deep fields (Val-F.Foreign d) = omega arith

  pub struct_no_deeper : (body : Body) (v : Val) → depth (ShowsFields scope body v) ≤ levels_of v
  struct_no_deeper body v = rw (fold_out-Val ℕ level_step v) (layer_struct_deep (fields_of body) (out-Val v))
