use Rattle.std.proofs.Common.{◌≡◌, ℕ, true, false, ◌&&◌, cond, List, Option, Some, None, is_some, is_none, refl, sym, ◌∙◌, subst, inl, inr}
use Rattle.std.specs.Str.{bytes_eq}
use Rattle.std.specs.BTreeMap.{get_by_text}
use Rattle.std.specs.String.{string_bytes}
use Rattle.std.proofs.lemmas.Bool.{cases_Bool}
use Rattle.std.proofs.lemmas.Slice.Eq.{bytes_eq-Decides}
use Rattle.std.proofs.lemmas.Map.Text.{btree_map_updates_text}
use Rattle.idl_compat.proofs.names.put_first.Goals as goal
use Rattle.idl_compat.proofs.names.put_first.Goals.{in-Ok, in-Err}

none_is : (o : Option ℕ) → is_some o ≡ false → is_none o ≡ true
none_is None h = refl
none_is (Some n) h = let no : true ≡ false = h in absurd (cc)

-- a place put at a name that has none
put_where : (name q : List ℕ) (old : List ℕ → Option ℕ) (place : ℕ) → is_some (old name) ≡ false
    → cond (bytes_eq name q) (Some place) (old q) ≡ cond (bytes_eq name q && is_none (old q)) (Some place) (old q)
put_where name q old place absent =
    elim (cases_Bool (bytes_eq name q)) [
      | inl same ↦ (let is : name ≡ q = (bytes_eq-Decides name q).0 same in
          let none : is_none (old q) ≡ true = none_is (old q) (subst (λ (t : List ℕ). is_some (old t) ≡ false) is absent) in
          rw (same, none) refl)
      | inr other ↦ rw other refl
    ]

pub returns : goal.returns
returns c =
    elim c.match-insert.branch [
      | in-Ok w ↦ rw w.result-is (λ q.
          let changed = btree_map_updates_text (string_bytes c.in_ok-key.key) c.args.places.now c.insert.new.self (Some c.args.place) w.in-Ok.ensures.updates q in
          rw c.in_ok-key.ensures.ok at changed
          ∙ put_where c.args.name.now q (get_by_text c.args.places.now) c.args.place (sym c.contains_key.ensures ∙ c.if-contains_key.false))
      | in-Err w ↦ rw w.result-is tt
    ]
