-- foreign data of a value of a type has no numbers but whole ones
use Rattle.std.proofs.Common.{◌≡◌, Bool, true, false, ◌&&◌, List, [], ◌∷◌, map, Option, Some, None, is_some, refl, sym, ap, ◌∙◌, subst}
use Rattle.std.specs.List.{list_all}
use Rattle.serde_json.specs.Find.{as_object}
use Rattle.idl_tree.specs.Names.{Bytes}
use Rattle.idl_tree.specs.declared.trees.Interface.{Interface}
use Rattle.idl_tree.specs.declared.trees.Prefix.{Prefix}
use Rattle.idl_tree.specs.declared.trees.Prefix.TheVariants.{Array, Map, Maybe}
use Rattle.idl_tree.specs.declared.trees.Field.{Field}
use Rattle.idl_tree.specs.declared.trees.TypeRef.{TypeRef}
use Rattle.idl_tree.specs.declared.trees.Body.{Body, out-Body}
use Rattle.idl_tree.specs.declared.trees.Core.{Core, out-Core}
use Rattle.idl_tree.specs.declared.trees.Body.TheOpen.{Body-F}
use Rattle.typed_value.specs.Bodies.{behind_maybes, body_of}
use Rattle.typed_value.specs.Ints.{has_only_ints}
use Rattle.typed_value.specs.KeyOrder.{is_as_read, is_whole_tree}
use Rattle.typed_value.specs.OfType.{Fit, fits, fit_step, is_plain, is_foreign, items_fit, entries_fit, fields_fit, struct_fits, body_fits}
use Rattle.typed_value.specs.KeyOrder.{are_in_order}
use Rattle.typed_value.specs.Sizes.{is_whole, whole_step}
use Rattle.typed_value.specs.declared.vals.Val.{Val, roll-Val, map-Val}
use Rattle.typed_value.specs.declared.vals.Val.TheOpen.{Val-F}
use Rattle.typed_value.specs.declared.vals.Val.TheFolds.{ind-Val, fold-roll-Val}
use Rattle.typed_value.proofs.Distinct.{first_true, second_true}
use Rattle.typed_value.proofs.EntriesBack.{both}

module _ (scope : Interface) where
  abbrev IsWholeOnce : Val → Type 0
  IsWholeOnce v = (prefixes : List Prefix) (core : Core) → fits scope v prefixes core ≡ true → is_whole v ≡ true

  abbrev Proved : Type 0
  Proved = (v : Val) × IsWholeOnce v

  abbrev vals : List Proved → List Val
  vals items = map (λ (item : Proved). item.0) items

  abbrev entry_vals : List (Bytes × Proved) → List (Bytes × Val)
  entry_vals entries = map (λ (entry : Bytes × Proved). (entry.0, entry.1.0)) entries

  abbrev all_whole : List Proved → Bool
  all_whole items = list_all (λ (whole : Bool). whole) (map is_whole (vals items))

  abbrev entries_whole : List (Bytes × Proved) → Bool
  entries_whole entries = list_all (λ (entry : Bytes × Bool). entry.1) (map (λ (entry : Bytes × Val). (entry.0, is_whole entry.1)) (entry_vals entries))

  items_whole : (items : List Proved) (prefixes : List Prefix) (core : Core) → list_all (λ (fit : Fit). fit prefixes core) (map (fits scope) (vals items)) ≡ true
      → all_whole items ≡ true
  items_whole [] prefixes core h = refl
  items_whole (item ∷ items) prefixes core h =
      both (is_whole item.0) (all_whole items) (item.1 prefixes core (first_true (fits scope item.0 prefixes core) _ h))
      (items_whole items prefixes core (second_true (fits scope item.0 prefixes core) _ h))

  array_whole : (items : List Proved) (prefixes : List Prefix) (core : Core) → items_fit (map (fits scope) (vals items)) prefixes core ≡ true → all_whole items ≡ true
  array_whole items (Array ∷ prefixes) core h = items_whole items prefixes core h
  array_whole items (Map ∷ prefixes) core h = let no : false ≡ true = h in absurd (cc)
  array_whole items (Maybe ∷ prefixes) core h = let no : false ≡ true = h in absurd (cc)
  array_whole items [] core h = let no : false ≡ true = h in absurd (cc)

  abbrev entry_fits : List (Bytes × Proved) → List (Bytes × Fit)
  entry_fits entries = map (λ (entry : Bytes × Val). (entry.0, fits scope entry.1)) (entry_vals entries)

  rows_whole : (entries : List (Bytes × Proved)) (prefixes : List Prefix) (core : Core)
      → list_all (λ (entry : Bytes × Fit). entry.1 prefixes core) (entry_fits entries) ≡ true → entries_whole entries ≡ true
  rows_whole [] prefixes core h = refl
  rows_whole (entry ∷ entries) prefixes core h =
      both (is_whole entry.1.0) (entries_whole entries) (entry.1.1 prefixes core (first_true (fits scope entry.1.0 prefixes core) _ h))
      (rows_whole entries prefixes core (second_true (fits scope entry.1.0 prefixes core) _ h))

  map_whole : (entries : List (Bytes × Proved)) (prefixes : List Prefix) (core : Core) → entries_fit (entry_fits entries) prefixes core ≡ true → entries_whole entries ≡ true
  map_whole entries (Map ∷ prefixes) core h =
      rows_whole entries prefixes core (second_true (are_in_order (map (λ (entry : Bytes × Fit). entry.0) (entry_fits entries))) _ h)
  map_whole entries (Array ∷ prefixes) core h = let no : false ≡ true = h in absurd (cc)
  map_whole entries (Maybe ∷ prefixes) core h = let no : false ≡ true = h in absurd (cc)
  map_whole entries [] core h = let no : false ≡ true = h in absurd (cc)

  fields_whole : (fields : List Field) (items : List Proved) → fields_fit fields (map (fits scope) (vals items)) ≡ true → all_whole items ≡ true
  fields_whole [] [] h = refl
  fields_whole [] (item ∷ items) h = let no : false ≡ true = h in absurd (cc)
  fields_whole (field ∷ fields) [] h = refl
  fields_whole (field ∷ fields) (item ∷ items) h =
      both (is_whole item.0) (all_whole items) (item.1 field.of.prefixes field.of.core (first_true (fits scope item.0 field.of.prefixes field.of.core) _ h))
      (fields_whole fields items (second_true (fits scope item.0 field.of.prefixes field.of.core) _ h))

  struct_whole : (body : Body-F Body Core Field TypeRef) (items : List Proved) → struct_fits body (map (fits scope) (vals items)) ≡ true → all_whole items ≡ true
  struct_whole (Body-F.Struct fields ending) items h = fields_whole fields items h
  struct_whole (Body-F.Enum names ending) items h = let no : false ≡ true = h in absurd (cc)

  body_whole : (body : Option Body) (items : List Proved) → body_fits body (map (fits scope) (vals items)) ≡ true → all_whole items ≡ true
  body_whole None items h = let no : false ≡ true = h in absurd (cc)
  body_whole (Some body) items h = struct_whole (out-Body body) items h

  layer_whole : (y : Val-F Proved) (prefixes : List Prefix) (core : Core)
      → fit_step scope (map-Val Val Fit (fits scope) (map-Val Proved Val (λ item. item.0) y)) prefixes core ≡ true
      → whole_step (map-Val Val Bool is_whole (map-Val Proved Val (λ item. item.0) y)) ≡ true
  layer_whole (Val-F.Bool b) prefixes core h = refl
  layer_whole (Val-F.Int z) prefixes core h = refl
  layer_whole (Val-F.Str s) prefixes core h = refl
  layer_whole (Val-F.Items items) prefixes core h = array_whole items (behind_maybes prefixes) core h
  layer_whole (Val-F.Map entries) prefixes core h = map_whole entries (behind_maybes prefixes) core h
  layer_whole (Val-F.Struct items) prefixes core h = body_whole (body_of scope core) items (second_true (is_plain (behind_maybes prefixes)) _ h)
  layer_whole (Val-F.Pick place) prefixes core h = refl
  layer_whole Val-F.Nothing prefixes core h = refl
  layer_whole (Val-F.Foreign d) prefixes core h =
      first_true (has_only_ints d) (is_as_read d)
      (second_true (is_plain (behind_maybes prefixes) && is_foreign (out-Core core) && is_some (as_object d)) (is_whole_tree d) h)

  pub whole_of_type : (v : Val) → IsWholeOnce v
  whole_of_type = ind-Val IsWholeOnce (λ x y is. subst (λ (z : Val-F Val). IsWholeOnce (roll-Val z)) is (λ prefixes core h.
      fold-roll-Val Bool whole_step (map-Val Proved Val (λ item. item.0) y)
      ∙ layer_whole y prefixes core (ap (λ (f : Fit). f prefixes core) (sym (fold-roll-Val Fit (fit_step scope) (map-Val Proved Val (λ item. item.0) y))) ∙ h)))
