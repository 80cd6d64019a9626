-- The strings of a JSON value are UTF-8.
use Rattle.std.proofs.Common.{◌≡◌, List, [], ◌∷◌, map, sym, subst, String, Global, string_bytes}
use Rattle.std.proofs.lemmas.Str.{IsUtf8-string_bytes}
use Rattle.serde_json.specs.Data.{Data}
use Rattle.serde_json.specs.View.{view, view_step, items_of, members_of}
use Rattle.serde_json.specs.declared.value.Value.{Value, roll-Value, map-Value}
use Rattle.serde_json.specs.declared.value.Value.TheOpen.{Value-F}
use Rattle.serde_json.specs.declared.value.Value.TheFolds.{ind-Value, fold-roll-Value}
use Rattle.link_port.specs.SoundTrees.{HasUtf8, ItemsHaveUtf8, MembersHaveUtf8}

abbrev IsText : Value → Type 0
IsText value = HasUtf8 (view value)

abbrev Proved : Type 0
Proved = (value : Value) × IsText value

items_utf8 : (values : List Proved) → ItemsHaveUtf8 (items_of (map view (map (λ (value : Proved). value.0) values)))
items_utf8 [] = tt
items_utf8 (value ∷ values) = (value.1, items_utf8 values)

members_utf8 : (entries : List (String Global × Proved))
    → MembersHaveUtf8 (members_of (map (λ (entry : String Global × Value). (entry.0, view entry.1)) (map (λ (entry : String Global × Proved). (entry.0, entry.1.0)) entries)))
members_utf8 [] = tt
members_utf8 (entry ∷ entries) = (IsUtf8-string_bytes entry.0, entry.1.1, members_utf8 entries)

layer_utf8 : (layer : Value-F Proved) → HasUtf8 (view_step (map-Value Value Data view (map-Value Proved Value (λ value. value.0) layer)))
layer_utf8 Value-F.Null = tt
layer_utf8 (Value-F.Bool b) = tt
layer_utf8 (Value-F.Number x) = tt
layer_utf8 (Value-F.String s) = IsUtf8-string_bytes s
layer_utf8 (Value-F.Array v) = items_utf8 v.items
layer_utf8 (Value-F.Object m) = members_utf8 m.entries

pub view-utf8 : (value : Value) → HasUtf8 (view value)
view-utf8 = ind-Value IsText (λ x layer is. subst (λ (z : Value-F Value). IsText (roll-Value z)) is
    (subst HasUtf8 (sym (fold-roll-Value Data view_step (map-Value Proved Value (λ value. value.0) layer))) (layer_utf8 layer)))
