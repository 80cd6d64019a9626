-- lists that grow by the interfaces of a sheet, one after another
use Rattle.std.proofs.Common.{◌≡◌, ℕ, ◌+◌, ◌<◌, List, [], ◌∷◌, ◌++◌, map, take, length, get_or, refl, sym, ap, ◌∙◌, subst}
use Rattle.std.specs.List.{AllByRecursion}
use Rattle.std.proofs.lemmas.List.{take_more, map-append}
use Rattle.serde_json.specs.Data.{Data, string}
use Rattle.serde_json.specs.View.{view}
use Rattle.serde_json.specs.declared.value.Value.{Value}
use Rattle.idl_tree.specs.Names.{Bytes}
use Rattle.idl_tree.specs.declared.trees.Interface.{Interface}
use Rattle.idl_rules.specs.Canon.{Canon}
use Rattle.sheet_form.specs.Interfaces.{names_of}
use Rattle.service_core.specs.Descriptions.{service_name}
use Rattle.service_core.specs.Served.{IsServed}

all_push : (interfaces : List Interface) (interface : Interface) → AllByRecursion IsServed interfaces → IsServed interface → AllByRecursion IsServed (interfaces ++ interface ∷ [])
all_push [] interface all is = (is, tt)
all_push (first ∷ interfaces) interface all is = (all.0, all_push interfaces interface all.1 is)

module _ (interfaces : List Interface) (i : ℕ) (interface : Interface) (within : i < length interfaces) (at : interface ≡ get_or interfaces i interface) where
  more : take (i + 1) interfaces ≡ take i interfaces ++ interface ∷ []
  more = take_more interfaces i interface within ∙ ap (λ (x : Interface). take i interfaces ++ x ∷ []) (sym at)

  pub served_more : AllByRecursion IsServed (take i interfaces) → IsServed interface → AllByRecursion IsServed (take (i + 1) interfaces)
  served_more all is = subst (AllByRecursion IsServed) (sym more) (all_push (take i interfaces) interface all is)

  pub texts_more : (texts new : List Bytes) (text : Bytes) → new ≡ texts ++ text ∷ [] → text ≡ Canon interface → texts ≡ map Canon (take i interfaces)
      → new ≡ map Canon (take (i + 1) interfaces)
  texts_more texts new text pushed is so_far =
      pushed ∙ ap (λ (l : List Bytes). l ++ text ∷ []) so_far ∙ ap (λ (x : Bytes). map Canon (take i interfaces) ++ x ∷ []) is
      ∙ sym (map-append Canon (take i interfaces) (interface ∷ [])) ∙ ap (map Canon) (sym more)

  pub names_more : (list new : List Value) (value : Value) → new ≡ list ++ value ∷ [] → view value ≡ string interface.name
      → map view list ≡ map string (service_name ∷ names_of (take i interfaces))
      → map view new ≡ map string (service_name ∷ names_of (take (i + 1) interfaces))
  names_more list new value pushed is so_far =
      let front = string service_name ∷ map string (names_of (take i interfaces)) in
      ap (map view) pushed ∙ map-append view list (value ∷ []) ∙ ap (λ (l : List Data). l ++ view value ∷ []) so_far
      ∙ ap (λ (x : Data). front ++ x ∷ []) is
      ∙ ap (λ (l : List Data). string service_name ∷ l) (sym (map-append string (names_of (take i interfaces)) (interface.name ∷ [])))
      ∙ ap (λ (l : List Bytes). string service_name ∷ map string l) (sym (map-append (λ (x : Interface). x.name) (take i interfaces) (interface ∷ [])))
      ∙ ap (λ (l : List Interface). string service_name ∷ map string (names_of l)) (sym more)
