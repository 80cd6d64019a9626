-- the description of an interface is accepted as it
use Rattle.std.proofs.Common.{◌≡◌, ℕ, zero, suc, List, [], ◌∷◌, Option, Some, None, option_map, option_and_then, slice_get, refl, sym, subst, inl, inr}
use Rattle.std.specs.List.{AllByRecursion}
use Rattle.std.specs.Str.{bytes_eq}
use Rattle.std.proofs.lemmas.Bool.{cases_Bool}
use Rattle.idl_tree.specs.Names.{Bytes}
use Rattle.idl_tree.specs.declared.trees.Interface.{Interface}
use Rattle.idl_rules.specs.Canon.{Canon}
use Rattle.idl_print.proofs.CanonSpells.{spells, spells_one}
use Rattle.typed_value.proofs.ReadsFit.{some_is}
use Rattle.rule_form.specs.Rules.{interface_place}
use Rattle.sheet_form.specs.declared.sheets.Contents.{Contents}
use Rattle.standard_interfaces.specs.Laws.{TextsAreAccepted}
use Rattle.service_core.specs.Descriptions.{service_name, description_of}
use Rattle.service_core.specs.Served.{IsServed}
use Rattle.call_form.specs.declared.Call.{Call}
use Rattle.service_core.specs.Places.{one, described, place_of}
use Rattle.service_core.specs.States.{State}
use Rattle.service_core.specs.Tells.{tell_of}
use Rattle.service_laws.specs.Laws.{DescriptionsAreAccepted, AsksFor, IsToldOf, DescriptionsAreTold}
use Rattle.service_laws.specs.Trees.{tree_named, IsTextOf}

-- an interface at a place of a list whose interfaces all are served
pub served_at : (interfaces : List Interface) (place : ℕ) (home : Interface) → AllByRecursion IsServed interfaces → slice_get interfaces place ≡ Some home → IsServed home
served_at [] place home all is = absurd (cc)
served_at (first ∷ interfaces) zero home all is = subst IsServed (some_is is) all.0
served_at (first ∷ interfaces) (suc place) home all is = served_at interfaces place home all.1 is

abbrev IsText : Option (ℕ × Interface) → Type 0
IsText found = IsTextOf (option_map (λ (x : ℕ × Interface). x.1) found) (option_map (λ (x : ℕ × Interface). Canon x.1) found)

text_of : (home : Interface) → IsServed home → IsTextOf (Some home) (Some (Canon home))
text_of home served = (
  (spells home served.formed, served.within, served.good),
  λ other accepts. spells_one home served.formed other accepts.0,
)

at_place : (place : ℕ) (found : Option Interface) → ((home : Interface) → found ≡ Some home → IsServed home)
    → IsText (option_map (λ (interface : Interface). (place, interface)) found)
at_place place None served = tt
at_place place (Some home) served = text_of home (served home refl)

placed_text : (sheet : Contents) → AllByRecursion IsServed sheet.interfaces → (place : Option ℕ)
    → IsText (option_and_then (λ (p : ℕ). option_map (λ (interface : Interface). (p, interface)) (slice_get sheet.interfaces p)) place)
placed_text sheet all None = tt
placed_text sheet all (Some place) = at_place place (slice_get sheet.interfaces place) (λ home is. served_at sheet.interfaces place home all is)

pub descriptions-are-accepted : TextsAreAccepted → DescriptionsAreAccepted
descriptions-are-accepted texts sheet all name = elim (cases_Bool (bytes_eq name service_name)) [
  | inl service ↦ rw service (texts.0.1, texts.0.2)
  | inr other ↦ rw other (placed_text sheet all (interface_place sheet.interfaces name))
]

-- and so is the one in the reply
told_of : (name : Bytes) (tree : Option Interface) (text : Option Bytes) → IsTextOf tree text → IsToldOf name tree (one (described name text))
told_of name (Some tree) (Some text) is = (text, refl, is)
told_of name (Some tree) None is = absurd is
told_of name None (Some text) is = absurd is
told_of name None None is = refl

own_told : (state : State) (name : Bytes) (call : Call) → AsksFor name call → (tell_of state call).outcome ≡ one (described name (description_of state.sheet name))
unfolding tell_of place_of
own_told state name call asks = rw (asks.method, asks.upgrade, asks.interface) refl

pub descriptions-are-told : TextsAreAccepted → DescriptionsAreTold
descriptions-are-told texts state all name call asks =
    subst (IsToldOf name (tree_named state.sheet name)) (sym (own_told state name call asks))
    (told_of name (tree_named state.sheet name) (description_of state.sheet name) (descriptions-are-accepted texts state.sheet all name))
