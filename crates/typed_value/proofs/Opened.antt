-- a fold at an array and a map, one level opened
use Rattle.std.proofs.Common.{◌≡◌, ◌+◌, ℕ, suc, List, map, sum, length, Some, refl, ap, ◌∙◌}
use Rattle.std.proofs.lemmas.Simd.{map-map}
use Rattle.serde_json.specs.Data.{Data, array, object}
use Rattle.serde_json.specs.View.{items_of}
use Rattle.idl_tree.specs.Form.{greatest}
use Rattle.idl_tree.specs.Names.{Bytes}
use Rattle.idl_tree.specs.declared.trees.Interface.{Interface}
use Rattle.idl_tree.specs.declared.trees.Prefix.{Prefix}
use Rattle.idl_tree.specs.declared.trees.Core.{Core}
use Rattle.typed_value.specs.Bodies.{part_prefixes}
use Rattle.typed_value.specs.Shows.{Writer, write_step, writer, or_null, items_shown, entries_shown}
use Rattle.typed_value.specs.Sizes.{level_step, levels_of, weight_step, weight_of}
use Rattle.typed_value.specs.declared.vals.Val.{Val}
use Rattle.typed_value.specs.declared.vals.Val.TheVariants.{Items, Map, Struct, outs-Items, outs-Map, outs-Struct}
use Rattle.typed_value.specs.declared.vals.Val.TheOpen.{Val-F}
use Rattle.typed_value.specs.declared.vals.Val.TheFolds.{fold-Val, fold_out-Val}

module _ (A : Type 0) (step : Val-F A → A) where
  abbrev pub entry_folds : Bytes × Val → Bytes × A
  entry_folds entry = (entry.0, fold-Val A step entry.1)

  pub items_opens : (values : List Val) → fold-Val A step (Items values) ≡ step (Val-F.Items (map (fold-Val A step) values))
  items_opens values = rw (fold_out-Val, outs-Items) refl

  pub map_opens : (entries : List (Bytes × Val)) → fold-Val A step (Map entries) ≡ step (Val-F.Map (map entry_folds entries))
  map_opens entries = rw (fold_out-Val, outs-Map) refl

  pub struct_opens : (values : List Val) → fold-Val A step (Struct values) ≡ step (Val-F.Struct (map (fold-Val A step) values))
  struct_opens values = rw (fold_out-Val, outs-Struct) refl

pub levels_at_map : (entries : List (Bytes × Val))
    → levels_of (Map entries) ≡ suc (greatest (map (λ (entry : Bytes × Val). levels_of entry.1) entries))
levels_at_map entries = map_opens ℕ level_step entries
    ∙ ap (λ ns. suc (greatest ns)) (map-map (λ (entry : Bytes × ℕ). entry.1) (entry_folds ℕ level_step) entries)

pub weight_at_map : (entries : List (Bytes × Val))
    → weight_of (Map entries) ≡ 64 + sum (map (λ (entry : Bytes × Val). length entry.0 + weight_of entry.1) entries)
weight_at_map entries = map_opens ℕ weight_step entries
    ∙ ap (λ ns. 64 + sum ns) (map-map (λ (entry : Bytes × ℕ). length entry.0 + entry.1) (entry_folds ℕ weight_step) entries)

pub written_items : (scope : Interface) (values : List Val) (prefixes : List Prefix) (core : Core)
    → writer scope (Items values) prefixes core ≡ Some (array (items_shown scope (part_prefixes prefixes) core values))
written_items scope values prefixes core =
    ap (λ (writes : Writer). writes prefixes core) (items_opens Writer (write_step scope) values)
    ∙ ap (λ (ds : List Data). Some (array (items_of ds)))
    (map-map (λ (writes : Writer). or_null (writes (part_prefixes prefixes) core)) (writer scope) values)

pub written_map : (scope : Interface) (entries : List (Bytes × Val)) (prefixes : List Prefix) (core : Core)
    → writer scope (Map entries) prefixes core ≡ Some (object (entries_shown scope (part_prefixes prefixes) core entries))
written_map scope entries prefixes core = ap (λ (writes : Writer). writes prefixes core) (map_opens Writer (write_step scope) entries)

pub levels_at_items : (values : List Val) → levels_of (Items values) ≡ suc (greatest (map levels_of values))
levels_at_items values = items_opens ℕ level_step values

pub levels_at_struct : (values : List Val) → levels_of (Struct values) ≡ suc (greatest (map levels_of values))
levels_at_struct values = struct_opens ℕ level_step values
