-- words and marks with which what was read of a type becomes a whole one
use Rattle.std.proofs.Common.{◌≡◌, ℕ, true, List, [], ◌∷◌, ◌++◌, codes, refl, ap, ◌∙◌}
use Rattle.std.specs.List.{list_all}
use Rattle.std.proofs.lemmas.Bool.{and_from}
use Rattle.idl_token.specs.Lex.{Lexeme, Lexemes}
use Rattle.idl_tree.specs.declared.trees.Field.{Field}
use Rattle.idl_tree.specs.declared.trees.TypeRef.{TypeRef}
use Rattle.idl_tree.specs.declared.trees.Body.{Body}
use Rattle.idl_tree.specs.declared.trees.Body.TheVariants.{Struct, Enum, Int, Inline}
use Rattle.idl_tree.specs.declared.trees.Prefix.TheVariants.{Array, Map}
use Rattle.idl_rules.specs.Items.{word, right_bracket, colon, right_square}
use Rattle.idl_rules.specs.Spells.{is_bare}
use Rattle.idl_rules.specs.Reading.{Read, run, closed, with_core, with_prefix}
use Rattle.idl_rules.specs.declared.states.State.{State}
use Rattle.idl_rules.specs.declared.states.State.TheVariants.{Start, Headed, Between, Keyed, Ready, Middle, Inside}
use Rattle.idl_rules.specs.declared.states.Head.{Head}
use Rattle.idl_rules.specs.declared.states.Begun.{Begun}
use Rattle.idl_rules.specs.declared.states.Level.{Level}
use Rattle.idl_rules.specs.declared.states.Spot.{Spot}
use Rattle.idl_rules.specs.declared.states.Spot.TheVariants as spot
use Rattle.idl_types.specs.TypeReading.{outer_head, outer_member}
use Rattle.idl_types.proofs.Places.{whole_at, Outermost, Place, InType, prefix_outer, core_placed, close_placed, inside_path}

pub record Closes (limit : ℕ) (state : State) : Type 0 where
  pub rest : Lexemes
  pub of : TypeRef
  pub bare : list_all is_bare rest ≡ true
  pub read : run limit state [] rest ≡ Read (whole_at of) []

by_item : (limit : ℕ) (state next : State) (item : Lexeme) → is_bare item ≡ true
    → ((items : Lexemes) → run limit state [] (item ∷ items) ≡ run limit next [] items) → Closes limit next
    → Closes limit state
by_item limit state next item bare takes more = record {
  rest = item ∷ more.rest;
  of = more.of;
  bare = and_from (is_bare item) (list_all is_bare more.rest) bare more.bare;
  read = takes more.rest ∙ more.read;
}

module _ (limit : ℕ) (head : Head) (member : Begun) (h : head ≡ outer_head) (m : member ≡ outer_member) where
  of_fields : (levels : List Level) (fields : List Field) → Place levels (spot.Fields fields)
      → Closes limit (Inside head member levels (spot.Fields fields))
  of_fields [] fields (of, e) = record {
    rest = [];
    of = of;
    bare = refl;
    read = ap (λ (s : State). Read s []) (inside_path head member fields of h m e);
  }
  of_fields (level ∷ levels) fields p =
      by_item limit _ _ right_bracket refl (λ items. refl)
      (of_fields levels (with_core level (Inline (Struct fields [])))
      (close_placed level levels (Inline (Struct fields [])) p))

  of_body : (level : Level) (levels : List Level) (body : Body) → Outermost (level ∷ levels)
      → Closes limit (closed head member (level ∷ levels) body)
  of_body level levels body p = of_fields levels (with_core level (Inline body))
      (close_placed level levels (Inline body) p)

  of_prefixes : (levels : List Level) (level : Level) → Place levels (spot.Prefixes level)
      → Closes limit (Inside head member levels (spot.Prefixes level))
  of_prefixes levels level p =
      by_item limit _ _ (word (codes "int")) refl (λ items. refl)
      (of_fields levels (with_core level Int) (core_placed levels level Int p))

  inside : (levels : List Level) (at : Spot) → Place levels at → Closes limit (Inside head member levels at)
  inside levels (spot.Fields fields) p = of_fields levels fields p
  inside levels (spot.Prefixes level) p = of_prefixes levels level p
  inside [] (spot.Square level) p =
      by_item limit _ _ right_square refl (λ items. refl)
      (of_prefixes [] (with_prefix level Array) (prefix_outer level Array p))
  inside [] (spot.Map level) p =
      by_item limit _ _ right_square refl (λ items. refl)
      (of_prefixes [] (with_prefix level Map) (prefix_outer level Map p))
  inside [] spot.First p = absurd p
  inside [] (spot.Only x) p = absurd p
  inside [] (spot.Names x) p = absurd p
  inside [] (spot.MoreNames x) p = absurd p
  inside [] (spot.MoreFields x) p = absurd p
  inside [] (spot.Field x) p = absurd p
  inside (next ∷ levels) (spot.Square level) p =
      by_item limit _ _ right_square refl (λ items. refl)
      (of_prefixes (next ∷ levels) (with_prefix level Array) p)
  inside (next ∷ levels) (spot.Map level) p =
      by_item limit _ _ right_square refl (λ items. refl)
      (of_prefixes (next ∷ levels) (with_prefix level Map) p)
  inside (next ∷ levels) spot.First p = by_item limit _ _ right_bracket refl (λ items. refl)
      (of_body next levels (Struct [] []) p)
  inside (next ∷ levels) (spot.Only named) p =
      by_item limit _ _ colon refl (λ items. refl)
      (of_prefixes (next ∷ levels) (record {
        fields = [];
        notes = named.notes;
        name = named.name;
        prefixes = [];
      }) p)
  inside (next ∷ levels) (spot.Names names) p =
      by_item limit _ _ right_bracket refl (λ items. refl) (of_body next levels (Enum names []) p)
  inside (next ∷ levels) (spot.MoreNames names) p =
      by_item limit _ (Inside head member (next ∷ levels)
      (spot.Names (names ++ record { notes = []; name = codes "a" } ∷ []))) (word (codes "a")) refl
      (λ items. refl)
      (by_item limit _ _ right_bracket refl (λ items. refl)
      (of_body next levels (Enum (names ++ record { notes = []; name = codes "a" } ∷ []) []) p))
  inside (next ∷ levels) (spot.MoreFields fields) p =
      let level : Level = record { fields = fields; notes = []; name = codes "a"; prefixes = [] } in
      by_item limit _ (Inside head member (next ∷ levels) (spot.Field level)) (word (codes "a")) refl
      (λ items. refl)
      (by_item limit _ _ colon refl (λ items. refl) (of_prefixes (next ∷ levels) level p))
  inside (next ∷ levels) (spot.Field level) p =
      by_item limit _ _ colon refl (λ items. refl) (of_prefixes (next ∷ levels) level p)

pub closes : (limit : ℕ) (state : State) → InType state → Closes limit state
closes limit (Inside head member levels at) (h, m, p) = inside limit head member h m levels at p
closes limit Start p = absurd p
closes limit (Headed notes) p = absurd p
closes limit (Between head) p = absurd p
closes limit (Keyed head notes keyword) p = absurd p
closes limit (Ready head member) p = absurd p
closes limit (Middle head notes name input) p = absurd p
