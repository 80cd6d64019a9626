-- the places of rules among one rule more
use Rattle.std.proofs.Common.{◌≡◌, ℕ, ◌+◌, ◌<◌, ◌≤◌, Bool, true, false, ◌&&◌, ◌==◌, cond, List, [], ◌∷◌, ◌++◌, Option, Some, None, is_none, option_and_then, length, take, get_or, refl, sym, ap, ◌∙◌, arith}
use Rattle.std.specs.List.{list_all, position_from}
use Rattle.std.specs.Str.{bytes_eq}
use Rattle.std.specs.BTreeMap.{get_by_text}
use Rattle.std.proofs.lemmas.Bool.{and_parts, ne_eqb, ltb-true}
use Rattle.std.proofs.lemmas.Option.{slice_get_past}
use Rattle.std.proofs.lemmas.List.{take_more, length-take-le}
use Rattle.idl_tree.specs.Names.{Bytes}
use Rattle.idl_tree.proofs.FirstPlaces.{position_from_push}
use Rattle.sheet_rules.specs.declared.forms.Rule.{Rule}
use Rattle.sheet_form.specs.RulePlaces.{ByMethod, is_rule_of, is_within, placed, rule_place}

module _ (rules : List Rule) (i : ℕ) (rule : Rule) (within : i < length rules) (at : rule ≡ get_or rules i rule) (interface : ℕ) (method : Bytes) where
  place_more : rule_place (take (i + 1) rules) interface method
      ≡ cond (is_rule_of interface method rule && is_none (rule_place (take i rules) interface method))
      (Some i) (rule_place (take i rules) interface method)
  place_more =
      let more : take (i + 1) rules ≡ take i rules ++ rule ∷ [] =
      take_more rules i rule within ∙ ap (λ (r : Rule). take i rules ++ r ∷ []) (sym at) in
      let size : 0 + length (take i rules) ≡ i = omega (arith, length-take-le i rules (omega arith)) in
      rw (more, position_from_push, size) refl

  pub put_more : (old new : Option ℕ) → old ≡ rule_place (take i rules) interface method
      → new ≡ cond (is_rule_of interface method rule && is_none old) (Some i) old
      → new ≡ rule_place (take (i + 1) rules) interface method
  put_more old new tells changed = rw (changed, tells, place_more) refl

-- no rule is of an interface that the sheet has not
other_rule : (count interface : ℕ) (method : Bytes) (rule : Rule) → is_within count rule ≡ true → count ≤ interface
    → is_rule_of interface method rule ≡ false
other_rule count interface method rule h past =
    let below : rule.interface < count = ltb-true rule.interface count h in
    let apart : (rule.interface == interface) ≡ false = ne_eqb rule.interface interface (λ same. omega (arith, same)) in
    ap (λ (b : Bool). b && bytes_eq rule.method method) apart

none_from : (count interface : ℕ) (method : Bytes) (i : ℕ) (rules : List Rule) → list_all (is_within count) rules ≡ true
    → count ≤ interface → position_from (is_rule_of interface method) i rules ≡ None
none_from count interface method i [] h past = refl
none_from count interface method i (rule ∷ rules) h past =
    let parts = and_parts (is_within count rule) (list_all (is_within count) rules) h in
    rw (other_rule count interface method rule parts.0 past) (none_from count interface method (i + 1) rules parts.1 past)

pub none_past : (maps : List ByMethod) (rules : List Rule) (interface : ℕ) (method : Bytes)
    → list_all (is_within (length maps)) rules ≡ true → length maps ≤ interface
    → placed maps interface method ≡ rule_place rules interface method
none_past maps rules interface method h past =
    ap (option_and_then (λ (methods : ByMethod). get_by_text methods method)) (slice_get_past maps interface past)
    ∙ sym (none_from (length maps) interface method 0 rules h past)
