-- Names that are listed as JSON strings.
use Rattle.std.proofs.Common.{◌≡◌, ℕ, List, [], ◌∷◌, ◌++◌, map, String, Global, string_bytes, refl, sym, ap, ◌∙◌, append_assoc, append-nil}
use Rattle.serde_json.specs.Data.{Data, string, array}
use Rattle.serde_json.specs.View.{view, items_of, items_view}
use Rattle.serde_json.specs.declared.value.Value.{Value}
use Rattle.link_port.specs.SoundTrees.{IsSound, AreSoundItems}
use Rattle.link_doors.specs.declared.addresses.Address.{Address}
use Rattle.resolver_core.specs.Registries.{names}
use Rattle.resolver_core.specs.Held.{seen}
use Rattle.resolver_core.specs.Places.{strings}

abbrev Held : Type 0
Held = List (String Global × Address)

-- the names listed, and those that are left
abbrev pub Lists : List Value → (left all : Held) → Type 0
Lists list left all = map view list ++ map string (names (seen left)) ≡ map string (names (seen all))

map_push : (list : List Value) (value : Value) → map view (list ++ value ∷ []) ≡ map view list ++ view value ∷ []
map_push [] value = refl
map_push (v ∷ list) value = ap (λ (l : List Data). view v ∷ l) (map_push list value)

pub lists_more : (list new : List Value) (value : Value) (left rest all : Held) (e : String Global × Address) → left ≡ e ∷ rest
    → view value ≡ string (string_bytes e.0) → new ≡ list ++ value ∷ [] → Lists list left all → Lists new rest all
lists_more list new value left rest all e is shows more lists =
    rw (more, map_push list value, shows) (append_assoc (map view list) (string (string_bytes e.0) ∷ []) (map string (names (seen rest)))
    ∙ rw is at lists)

pub lists_done : (list : List Value) (left all : Held) → left ≡ [] → Lists list left all → array (items_view list) ≡ strings (names (seen all))
lists_done list left all none lists =
    ap (λ (l : List Data). array (items_of l)) (sym (append-nil (map view list)) ∙ rw none at lists)

sound_items : (texts : List (List ℕ)) → AreSoundItems (items_of (map string texts))
sound_items [] = tt
sound_items (text ∷ texts) = (tt, sound_items texts)

pub strings_sound : (texts : List (List ℕ)) → IsSound (strings texts)
strings_sound texts = sound_items texts
