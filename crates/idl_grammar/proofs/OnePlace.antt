-- a text has one first place at which its items stop to begin what is read
use Rattle.std.proofs.Common.{◌≡◌, ℕ, ◌≤◌, List, [], ◌∷◌, ◌++◌, append_assoc, length, Option, Some, None, refl, sym, ap, subst, ◌∙◌, arith, inl, inr}
use Rattle.std.proofs.lemmas.List.{map-append}
use Rattle.idl_token.specs.Lex.{Bytes, Lexeme, Lexemes, Placed, Begins, Lex, LexAt, BadByteAt, first_item, after_blanks}
use Rattle.idl_token.proofs.OneList.{one_lex}
use Rattle.idl_rules.specs.Items.{left_bracket}
use Rattle.idl_rules.specs.Spells.{greatest_depth, depth_at_end, depth_behind}
use Rattle.idl_grammar.specs.Refuses.{unplaced, bare, Stands, StrayAt, MissingAt, StopsIn, DeepAt}

-- ---- the places of items

item_of : (i j : Lexeme) (r s : Bytes) → ◌≡◌ {A = Option (Lexeme × Bytes)} (Some (i, r)) (Some (j, s)) → (i ≡ j) × (r ≡ s)
item_of i j r s p =
    let q : ◌≡◌ {A = Lexeme × Bytes} (i, r) (j, s) = cc in (ap (λ (x : Lexeme × Bytes). x.0) q, ap (λ (x : Lexeme × Bytes). x.1) q)

no_item : (bytes : Bytes) (found : Lexeme × Bytes) → bytes ≡ [] → first_item bytes ≡ Some found → ⊥
no_item bytes found empty item =
    let none : None ≡ Some found = subst (λ (t : Bytes). first_item t ≡ Some found) empty item in cc

-- at most one list of items with places spells a text
same_places : (whole : ℕ) (items others : List Placed) (text : Bytes) → LexAt whole items text → LexAt whole others text → items ≡ others
same_places whole [] [] text a b = refl
same_places whole [] (j ∷ js) text a (more, item, at, b) = absurd (no_item (after_blanks text) ((j.0, j.2), more) a item)
same_places whole (i ∷ is) [] text (more, item, at, a) b = absurd (no_item (after_blanks text) ((i.0, i.2), more) b item)
same_places whole ((k, p, w) ∷ is) ((l, q, v) ∷ js) text (more, item, at, a) (more', item', at', b) =
    let same = item_of (k, w) (l, v) more more' (sym item ∙ item') in
    let tail : is ≡ js = same_places whole is js more a (subst (λ (t : Bytes). LexAt whole js t) (sym same.1) b) in
    let place : p ≡ q = omega arith in
    let kinds : k ≡ l = ap (λ (x : Lexeme). x.0) same.0 in
    let words : w ≡ v = ap (λ (x : Lexeme). x.1) same.0 in
    cc

-- the items with their places are the items of the text
begun : (whole : ℕ) (items : List Placed) (text : Bytes) → LexAt whole items text → (rest : Bytes) × Begins (bare items) text rest × (after_blanks rest ≡ [])
begun whole [] text a = (text, refl, a)
begun whole (i ∷ is) text (more, item, at, a) = let r = begun whole is more a in (r.0, (more, item, r.1), r.2)

-- two runs of items that stop before a byte that begins none stop before the same one
same_rest : (items others : Lexemes) (text rest end : Bytes) → Begins items text rest → Begins others text end
    → first_item (after_blanks rest) ≡ None → first_item (after_blanks end) ≡ None → rest ≡ end
same_rest [] [] text rest end a b n m = sym a ∙ b
same_rest [] (j ∷ js) text rest end a (more, item, b) n m =
    let none : first_item (after_blanks text) ≡ None = ap (λ (t : Bytes). first_item (after_blanks t)) a ∙ n in
    let other : ◌≡◌ {A = Option (Lexeme × Bytes)} None (Some (j, more)) = sym none ∙ item in absurd (cc)
same_rest (i ∷ is) [] text rest end (more, item, a) b n m =
    let none : first_item (after_blanks text) ≡ None = ap (λ (t : Bytes). first_item (after_blanks t)) b ∙ m in
    let other : ◌≡◌ {A = Option (Lexeme × Bytes)} None (Some (i, more)) = sym none ∙ item in absurd (cc)
same_rest (i ∷ is) (j ∷ js) text rest end (more, item, a) (more', item', b) n m =
    let same = item_of i j more more' (sym item ∙ item') in
    same_rest is js more rest end a (subst (λ (t : Bytes). Begins js t end) (sym same.1) b) n m

pub same_bad_byte : (text : Bytes) (at other : ℕ) → BadByteAt at text → BadByteAt other text → at ≡ other
same_bad_byte text at other (items, rest, a, l, n, p) (others, end, b, k, m, q) =
    let same = ap (λ (t : Bytes). length (after_blanks t)) (same_rest items others text rest end a b n m) in omega arith

-- ---- how deep items are

along : (depth : ℕ) (front rest : Lexemes) → depth_at_end depth front ≤ greatest_depth depth (front ++ rest)
along depth [] [] = omega arith
along depth [] (item ∷ rest) = omega arith
along depth (item ∷ front) rest = let deep = along (depth_behind depth item) front rest in omega arith

at_end : (depth : ℕ) (front : Lexemes) (item : Lexeme) → depth_at_end depth (front ++ item ∷ []) ≡ depth_behind (depth_at_end depth front) item
at_end depth [] item = refl
at_end depth (head ∷ front) item = at_end (depth_behind depth head) front item

-- behind a bracket that is too deep, items are too deep
beyond : (front rest : Lexemes) (item : Lexeme) → item ≡ left_bracket → depth_at_end 0 front ≡ 64 → greatest_depth 0 ((front ++ item ∷ []) ++ rest) ≤ 64 → ⊥
beyond front rest item bracket depth within =
    let deep = along 0 (front ++ item ∷ []) rest in
    let last = at_end 0 front item in
    let more : depth_behind (depth_at_end 0 front) item ≡ 65 = ap (λ (x : Lexeme). depth_behind (depth_at_end 0 front) x) bracket ∙ ap (λ (d : ℕ). depth_behind d left_bracket) depth in
    omega arith

-- ---- two places in one list

bare_append : (front rest : List Placed) → bare (front ++ rest) ≡ bare front ++ bare rest
bare_append front rest = map-append unplaced front rest

-- the first place is before the second one, at it, or behind it
data Order (front : List Placed) (item : Placed) (front' : List Placed) (item' : Placed) : Type 0 where
  before : (more : Lexemes) → bare front' ≡ (bare front ++ unplaced item ∷ []) ++ more → Order front item front' item'
  same : front ≡ front' → item ≡ item' → Order front item front' item'
  after : (more : Lexemes) → bare front ≡ (bare front' ++ unplaced item' ∷ []) ++ more → Order front item front' item'

order : (front : List Placed) (item : Placed) (rest front' : List Placed) (item' : Placed) (rest' : List Placed)
    → front ++ item ∷ rest ≡ front' ++ item' ∷ rest' → Order front item front' item'
order [] item rest [] item' rest' e = same refl (cc)
order [] item rest (i ∷ front') item' rest' e =
    let heads : item ≡ i = cc in before (bare front') (ap (λ (x : Placed). unplaced x ∷ bare front') (sym heads))
order (i ∷ front) item rest [] item' rest' e =
    let heads : i ≡ item' = cc in after (bare front) (ap (λ (x : Placed). unplaced x ∷ bare front) heads)
order (i ∷ front) item rest (j ∷ front') item' rest' e =
    let heads : i ≡ j = cc in
    let tails : front ++ item ∷ rest ≡ front' ++ item' ∷ rest' = cc in
    elim (order front item rest front' item' rest' tails) [
      | before more cut ↦ before more (ap (λ (x : Placed). unplaced x ∷ bare front') (sym heads) ∙ ap (λ (x : Lexemes). unplaced i ∷ x) cut)
      | same fronts items ↦ same (cc) items
      | after more cut ↦ after more (ap (λ (x : Placed). unplaced x ∷ bare front) heads ∙ ap (λ (x : Lexemes). unplaced j ∷ x) cut)
    ]

-- the items that stand around a place are those of the text
around : (text : Bytes) (front : List Placed) (item : Placed) (rest : List Placed) (at : ℕ) → Stands text front item rest at
    → (items : Lexemes) → Lex items text → items ≡ (bare front ++ unplaced item ∷ []) ++ bare rest
around text front item rest at stands items lex =
    let b = begun (length text) (front ++ item ∷ rest) text stands.items in
    one_lex items (bare (front ++ item ∷ rest)) text lex (lex.0, b) ∙ bare_append front (item ∷ rest)
    ∙ sym (append_assoc (bare front) (unplaced item ∷ []) (bare rest))

module _ (begins : Lexemes → Type 0) (closed : (all front back : Lexemes) → begins all → all ≡ front ++ back → begins front) (text : Bytes) (at other : ℕ) where
  strays : StrayAt begins text at → StrayAt begins text other → at ≡ other
  strays a b = elim (order a.front a.item a.rest b.front b.item b.rest (same_places (length text) _ _ text a.stands.items b.stands.items)) [
    | before more cut ↦ absurd (a.stops (closed (bare b.front) _ more b.goes cut))
    | same fronts items ↦ sym a.stands.place ∙ ap (λ (x : Placed). x.1) items ∙ b.stands.place
    | after more cut ↦ absurd (b.stops (closed (bare a.front) _ more a.goes cut))
  ]

  stray_missing : StrayAt begins text at → MissingAt begins text other → ⊥
  stray_missing a b = a.stops (closed b.items _ (bare a.rest) b.goes (around text a.front a.item a.rest at a.stands b.items b.lex))

  stray_deep : StrayAt begins text at → DeepAt begins text other → ⊥
  stray_deep a b = elim (order a.front a.item a.rest b.front b.item b.rest (same_places (length text) _ _ text a.stands.items b.stands.items)) [
    | before more cut ↦ a.stops (closed (bare b.front ++ unplaced b.item ∷ []) _ (more ++ unplaced b.item ∷ []) b.goes
        (ap (λ (x : Lexemes). x ++ unplaced b.item ∷ []) cut ∙ append_assoc (bare a.front ++ unplaced a.item ∷ []) more (unplaced b.item ∷ [])))
    | same fronts items ↦ a.stops (subst (λ (x : Placed). begins (bare a.front ++ unplaced x ∷ [])) (sym items)
        (subst (λ (x : List Placed). begins (bare x ++ unplaced b.item ∷ [])) (sym fronts) b.goes))
    | after more cut ↦ beyond (bare b.front) more (unplaced b.item) b.bracket b.beyond (subst (λ (x : Lexemes). greatest_depth 0 x ≤ 64) cut a.within)
  ]

  missing_deep : MissingAt begins text at → DeepAt begins text other → ⊥
  missing_deep a b = beyond (bare b.front) (bare b.rest) (unplaced b.item) b.bracket b.beyond
      (subst (λ (x : Lexemes). greatest_depth 0 x ≤ 64) (around text b.front b.item b.rest other b.stands a.items a.lex) a.within)

  pub same_deep : DeepAt begins text at → DeepAt begins text other → at ≡ other
  same_deep a b = elim (order a.front a.item a.rest b.front b.item b.rest (same_places (length text) _ _ text a.stands.items b.stands.items)) [
    | before more cut ↦ absurd (beyond (bare a.front) more (unplaced a.item) a.bracket a.beyond (subst (λ (x : Lexemes). greatest_depth 0 x ≤ 64) cut b.within))
    | same fronts items ↦ sym a.stands.place ∙ ap (λ (x : Placed). x.1) items ∙ b.stands.place
    | after more cut ↦ absurd (beyond (bare b.front) more (unplaced b.item) b.bracket b.beyond (subst (λ (x : Lexemes). greatest_depth 0 x ≤ 64) cut a.within))
  ]

  pub stop_deep : StopsIn begins text at → DeepAt begins text other → ⊥
  stop_deep (inl a) b = stray_deep a b
  stop_deep (inr a) b = missing_deep a b

module _ (begins : Lexemes → Type 0) (closed : (all front back : Lexemes) → begins all → all ≡ front ++ back → begins front) (text : Bytes) (at other : ℕ) where
  pub same_stop : StopsIn begins text at → StopsIn begins text other → at ≡ other
  same_stop (inl a) (inl b) = strays begins closed text at other a b
  same_stop (inl a) (inr b) = absurd (stray_missing begins closed text at other a b)
  same_stop (inr a) (inl b) = absurd (stray_missing begins closed text other at b a)
  same_stop (inr a) (inr b) = a.place ∙ sym b.place
