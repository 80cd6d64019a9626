-- the first places of names among one register more
use Rattle.std.proofs.Common.{◌≡◌, ℕ, ◌+◌, ◌<◌, Bool, ◌&&◌, cond, List, [], ◌∷◌, ◌++◌, Option, Some, None, is_none, length, take, get_or, refl, sym, ap, ◌∙◌, arith}
use Rattle.std.specs.Str.{bytes_eq}
use Rattle.std.specs.List.{position_from}
use Rattle.std.specs.BTreeMap.{get_by_text}
use Rattle.std.proofs.lemmas.List.{take_more, length-take-le}
use Rattle.idl_tree.specs.Names.{Bytes}
use Rattle.idl_tree.proofs.FirstPlaces.{position_from_push}
use Rattle.sheet_rules.specs.declared.forms.Register.{Register}
use Rattle.expression_form.specs.Places.{ByName, Finds}

abbrev named : Bytes → Register → Bool
named name register = bytes_eq register.name name

module _ (registers : List Register) (i : ℕ) (register : Register) (within : i < length registers) (at : register ≡ get_or registers i register) where
  place_more : (name : Bytes) → position_from (named name) 0 (take (i + 1) registers)
      ≡ cond (bytes_eq register.name name && is_none (position_from (named name) 0 (take i registers)))
      (Some i) (position_from (named name) 0 (take i registers))
  place_more name =
      let more : take (i + 1) registers ≡ take i registers ++ register ∷ [] =
      take_more registers i register within ∙ ap (λ (r : Register). take i registers ++ r ∷ []) (sym at) in
      let size : 0 + length (take i registers) ≡ i = omega (arith, length-take-le i registers (omega arith)) in
      rw (more, position_from_push, size) refl

  pub put_more : (old new : ByName) → Finds old (take i registers)
      → ((q : Bytes) → get_by_text new q ≡ cond (bytes_eq register.name q && is_none (get_by_text old q)) (Some i) (get_by_text old q))
      → Finds new (take (i + 1) registers)
  put_more old new tells changed name = rw (changed name, tells name, place_more name) refl
