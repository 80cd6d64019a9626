-- when a value is of a type, one level opened
use Rattle.std.proofs.Common.{◌≡◌, Bool, ◌&&◌, List, [], ◌∷◌, map, refl, ap, ◌∙◌}
use Rattle.std.specs.List.{list_all}
use Rattle.idl_tree.specs.Names.{Bytes}
use Rattle.idl_tree.specs.declared.trees.Interface.{Interface}
use Rattle.idl_tree.specs.declared.trees.Prefix.{Prefix}
use Rattle.idl_tree.specs.declared.trees.Prefix.TheVariants.{Array, Map, Maybe}
use Rattle.idl_tree.specs.declared.trees.Core.{Core}
use Rattle.typed_value.specs.OfType.{Fit, fit_step, fits, items_fit, entries_fit}
use Rattle.typed_value.specs.Bodies.{behind_maybes}
use Rattle.typed_value.specs.declared.vals.Val.{Val}
use Rattle.typed_value.specs.declared.vals.Val.TheVariants as val
use Rattle.typed_value.proofs.Opened.{entry_folds, items_opens, map_opens}
use Rattle.sheet_rules.specs.Types.{map_fits}

keys_folded : (scope : Interface) (entries : List (Bytes × Val))
    → map (λ (entry : Bytes × Fit). entry.0) (map (entry_folds Fit (fit_step scope)) entries) ≡ map (λ (entry : Bytes × Val). entry.0) entries
keys_folded scope [] = refl
keys_folded scope (entry ∷ entries) = ap (λ keys. entry.0 ∷ keys) (keys_folded scope entries)

entries_folded : (scope : Interface) (prefixes : List Prefix) (core : Core) (entries : List (Bytes × Val))
    → list_all (λ (entry : Bytes × Fit). entry.1 prefixes core) (map (entry_folds Fit (fit_step scope)) entries)
    ≡ list_all (λ (entry : Bytes × Val). fits scope entry.1 prefixes core) entries
entries_folded scope prefixes core [] = refl
entries_folded scope prefixes core (entry ∷ entries) =
    ap (λ (rest : Bool). fits scope entry.1 prefixes core && rest) (entries_folded scope prefixes core entries)

pub array_fits : (scope : Interface) (values : List Val) (prefixes : List Prefix) (core : Core)
    → fits scope (val.Items values) prefixes core ≡ items_fit (map (fits scope) values) (behind_maybes prefixes) core
array_fits scope values prefixes core = ap (λ (fit : Fit). fit prefixes core) (items_opens Fit (fit_step scope) values)

entries_are : (scope : Interface) (entries : List (Bytes × Val)) (prefixes : List Prefix) (core : Core)
    → entries_fit (map (entry_folds Fit (fit_step scope)) entries) prefixes core ≡ map_fits scope entries prefixes core
entries_are scope entries [] core = refl
entries_are scope entries (Array ∷ prefixes) core = refl
entries_are scope entries (Maybe ∷ prefixes) core = refl
entries_are scope entries (Map ∷ prefixes) core = rw (keys_folded scope entries, entries_folded scope prefixes core entries) refl

pub map_is : (scope : Interface) (entries : List (Bytes × Val)) (prefixes : List Prefix) (core : Core)
    → fits scope (val.Map entries) prefixes core ≡ map_fits scope entries (behind_maybes prefixes) core
map_is scope entries prefixes core =
    ap (λ (fit : Fit). fit prefixes core) (map_opens Fit (fit_step scope) entries) ∙ entries_are scope entries (behind_maybes prefixes) core
