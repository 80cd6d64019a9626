-- marks that are closed and reached tell which names reach `float`
use Rattle.std.proofs.Common.{◌≡◌, ℕ, zero, suc, ◌<◌, Bool, true, false, ◌||◌, ◌==◌, List, [], ◌∷◌, ◌++◌, Option, Some, None, option_map, option_and_then, find, slice_get, length, map, refl, sym, ap, ◌∙◌, inl, inr, arith}
use Rattle.std.specs.List.{list_any}
use Rattle.std.specs.Prelude.{◌⊎◌, ◌↔◌}
use Rattle.std.specs.BTreeMap.{get_by_text}
use Rattle.std.proofs.lemmas.Bool.{cases_Bool, eqb-true, eq-eqb}
use Rattle.std.proofs.lemmas.List.Folds.{list_any-append}
use Rattle.idl_tree.specs.Names.{Bytes}
use Rattle.idl_tree.specs.Faults.{is_named, shape_in, type_named}
use Rattle.idl_tree.specs.Floats.{Used, body_has_float, body_used, found_reaches, name_reaches, part_used, part_has_float, member_has_float, used_at, place_or_none, places_of, TellsUsers, place_marked, name_marked, TellsFloats}
use Rattle.idl_tree.specs.Marks.{has, is_marked, users_at, Within, Reached, Closed}
use Rattle.idl_tree.specs.Places.{Tells}
use Rattle.idl_tree.specs.declared.places.Index.{Index}
use Rattle.idl_tree.specs.declared.spaces.Space.TheVariants.{Types}
use Rattle.idl_tree.specs.declared.trees.Interface.{Interface}
use Rattle.idl_tree.specs.declared.trees.Member.{Member}
use Rattle.idl_tree.specs.declared.trees.Body.{Body}
use Rattle.idl_tree.proofs.FirstPlaces.{found_by_place}

or_true : (a b : Bool) → (a || b) ≡ true → (a ≡ false) → b ≡ true
or_true true b h off = let both : true ≡ false = off in absurd (cc)
or_true false b h off = h

or_left : (a b : Bool) → a ≡ true → (a || b) ≡ true
or_left a b h = rw h refl

or_right : (a b : Bool) → b ≡ true → (a || b) ≡ true
or_right true b h = refl
or_right false b h = h

-- the body of the type at a place
abbrev shape_at : List Member → ℕ → Option Body
shape_at members i = option_and_then (λ (member : Member). shape_in member.part) (slice_get members i)

used_is : (members : List Member) (i : ℕ) → used_at members i ≡ part_used (shape_at members i)
used_is [] i = refl
used_is (member ∷ members) zero = refl
used_is (member ∷ members) (suc i) = used_is members i

marked_is : (members : List Member) (i : ℕ) → is_marked (map member_has_float members) i ≡ part_has_float (shape_at members i)
marked_is [] i = refl
marked_is (member ∷ members) zero = refl
marked_is (member ∷ members) (suc i) = marked_is members i

shape_of_found : (found : Option Member) → option_and_then shape_in (option_map (λ (m : Member). m.part) found) ≡ option_and_then (λ (m : Member). shape_in m.part) found
shape_of_found None = refl
shape_of_found (Some m) = refl

inside : (users : List (List ℕ)) (j i : ℕ) → has i (users_at users j) ≡ true → j < length users
inside [] j i h = let both : false ≡ true = h in absurd (cc)
inside (list ∷ users) zero i h = omega arith
inside (list ∷ users) (suc j) i h = omega (arith, inside users j i h)

marked_inside : (marks : List Bool) (i : ℕ) → is_marked marks i ≡ true → i < length marks
marked_inside [] i h = let both : false ≡ true = h in absurd (cc)
marked_inside (mark ∷ marks) zero h = omega arith
marked_inside (mark ∷ marks) (suc i) h = omega (arith, marked_inside marks i h)

shape_inside : (members : List Member) (i : ℕ) (body : Body) → shape_at members i ≡ Some body → i < length members
shape_inside [] i body h = absurd (cc)
shape_inside (member ∷ members) zero body h = omega arith
shape_inside (member ∷ members) (suc i) body h = omega (arith, shape_inside members i body h)

float_here : (body : Option Body) (reaches : Bytes → Bool) → part_has_float body ≡ true → found_reaches reaches body ≡ true
float_here None reaches h = h
float_here (Some body) reaches h = or_left (body_has_float body) (list_any reaches (body_used body)) h

used_there : (body : Option Body) (reaches : Bytes → Bool) → list_any reaches (part_used body) ≡ true → found_reaches reaches body ≡ true
used_there None reaches h = h
used_there (Some body) reaches h = or_right (body_has_float body) (list_any reaches (body_used body)) h

module _ (index : Index) (tree : Interface) (tells : Tells index tree.members) where
  chain : (place : Option ℕ) → option_and_then (λ (x : Member). shape_in x.part) (option_and_then (λ (i : ℕ). slice_get tree.members i) place)
      ≡ option_and_then (λ (i : ℕ). shape_at tree.members i) place
  chain None = refl
  chain (Some i) = refl

  -- the type of a name is that at its place
  at_place : (name : Bytes) → type_named name tree ≡ option_and_then (λ (i : ℕ). shape_at tree.members i) (get_by_text index.types name)
  at_place name =
      let found = found_by_place (is_named Types name) tree.members (get_by_text index.types name) (tells Types name) in
      shape_of_found (find (is_named Types name) tree.members) ∙ ap (λ (m : Option Member). option_and_then (λ (x : Member). shape_in x.part) m) found ∙ chain (get_by_text index.types name)

  one_place : (place : Option ℕ) (names : Used) (j : ℕ) → has j (place_or_none place ++ places_of index names) ≡ true
      → (place ≡ Some j) ⊎ (has j (places_of index names) ≡ true)
  one_place None names j h = inr h
  one_place (Some p) names j h = elim (cases_Bool (p == j)) [
    | inl same ↦ inl (ap (λ (k : ℕ). Some k) (eqb-true p j same))
    | inr off ↦ inr (or_true (p == j) (has j (places_of index names)) h off)
  ]

  -- what holds of each name of a place holds of some name that is used, where its place is
  any_place : (q : Bytes → Bool) (names : Used) (j : ℕ) → has j (places_of index names) ≡ true
      → ((name : Bytes) → get_by_text index.types name ≡ Some j → q name ≡ true) → list_any q names ≡ true
  any_place q [] j h each = let both : false ≡ true = h in absurd (cc)
  any_place q (name ∷ names) j h each = elim (one_place (get_by_text index.types name) names j h) [
    | inl here ↦ or_left (q name) (list_any q names) (each name here)
    | inr later ↦ or_right (q name) (list_any q names) (any_place q names j later each)
  ]

  first_place : (marks : List Bool) (place : Option ℕ) (names : Used) → place_marked marks place ≡ true
      → (j : ℕ) × ((is_marked marks j ≡ true) × (has j (place_or_none place ++ places_of index names) ≡ true))
  first_place marks None names h = let both : false ≡ true = h in absurd (cc)
  first_place marks (Some p) names h = (p, (h, or_left (p == p) (has p (places_of index names)) (eq-eqb p p refl)))

  -- some marked name that is used has its place among those that are used
  marked_any : (q : Bytes → Bool) (marks : List Bool) (names : Used) → list_any q names ≡ true
      → ((name : Bytes) → q name ≡ true → name_marked index marks name ≡ true)
      → (j : ℕ) × ((is_marked marks j ≡ true) × (has j (places_of index names) ≡ true))
  marked_any q marks [] h each = let both : false ≡ true = h in absurd (cc)
  marked_any q marks (name ∷ names) h each = elim (cases_Bool (q name)) [
    | inl here ↦ first_place marks (get_by_text index.types name) names (each name here)
    | inr off ↦ (let later = marked_any q marks names (or_true (q name) (list_any q names) h off) each in
        (later.0, (later.1.0, rw list_any-append (or_right (has later.0 (place_or_none (get_by_text index.types name))) _ later.1.1))))
  ]

  module _ (users : List (List ℕ)) (marks : List Bool) (sized : length users ≡ length tree.members) (told : TellsUsers index tree.members users)
      (same_size : length marks ≡ length tree.members)
      (kept : (i : ℕ) → is_marked (map member_has_float tree.members) i ≡ true → is_marked marks i ≡ true)
      (closed : Closed users marks)
      (reached : (i : ℕ) → is_marked marks i ≡ true → Reached users (map member_has_float tree.members) i) where
    used_within : (j i : ℕ) → has i (users_at users j) ≡ true → j < length users
    used_within j i h = inside users j i h

    -- a type reaches `float` in as many steps as its place is reached in
    steps_from : (k p : ℕ) → Within users (map member_has_float tree.members) k p → (name : Bytes) → get_by_text index.types name ≡ Some p
        → name_reaches tree (suc k) name ≡ true
    steps_from zero p here name at =
        let shape = at_place name ∙ ap (λ (o : Option ℕ). option_and_then (λ (i : ℕ). shape_at tree.members i) o) at in
        let float = sym (marked_is tree.members p) ∙ here in
        ap (found_reaches (name_reaches tree zero)) shape ∙ float_here (shape_at tree.members p) (name_reaches tree zero) float
    steps_from (suc k) p (j, (before, user)) name at =
        let shape = at_place name ∙ ap (λ (o : Option ℕ). option_and_then (λ (i : ℕ). shape_at tree.members i) o) at in
        let used = sym (told j p (used_within j p user)) ∙ user in
        let used_here = sym (ap (λ (names : Used). has j (places_of index names)) (used_is tree.members p)) ∙ used in
        let any = any_place (name_reaches tree (suc k)) (part_used (shape_at tree.members p)) j used_here (λ other there. steps_from k j before other there) in
        ap (found_reaches (name_reaches tree (suc k))) shape ∙ used_there (shape_at tree.members p) (name_reaches tree (suc k)) any

    sound_at : (place : Option ℕ) (name : Bytes) → get_by_text index.types name ≡ place → place_marked marks place ≡ true
        → (steps : ℕ) × (name_reaches tree steps name ≡ true)
    sound_at None name at h = let both : false ≡ true = h in absurd (cc)
    sound_at (Some p) name at h = let r = reached p h in (suc r.0, steps_from r.0 p r.1 name at)

    body_at_marked : (body : Option Body) (p : ℕ) → shape_at tree.members p ≡ body → (reaches : Bytes → Bool) → found_reaches reaches body ≡ true
        → ((other : Bytes) → reaches other ≡ true → name_marked index marks other ≡ true) → is_marked marks p ≡ true
    body_at_marked None p shape reaches h each = let both : false ≡ true = h in absurd (cc)
    body_at_marked (Some body) p shape reaches h each = elim (cases_Bool (body_has_float body)) [
      | inl float ↦ kept p (marked_is tree.members p ∙ ap part_has_float shape ∙ float)
      | inr off ↦ (let found = marked_any reaches marks (body_used body) (or_true (body_has_float body) (list_any reaches (body_used body)) h off) each in
          let j = found.0 in
          let within : j < length users = omega (arith, marked_inside marks j found.1.0) in
          let names = used_is tree.members p ∙ ap part_used shape in
          let user = told j p within ∙ ap (λ (used : Used). has j (places_of index used)) names ∙ found.1.1 in
          closed j p found.1.0 user (omega (arith, shape_inside tree.members p body shape)))
    ]

    whole_at : (place : Option ℕ) (name : Bytes) → get_by_text index.types name ≡ place → (steps : ℕ)
        → found_reaches (name_reaches tree steps) (option_and_then (λ (i : ℕ). shape_at tree.members i) place) ≡ true
        → ((other : Bytes) → name_reaches tree steps other ≡ true → name_marked index marks other ≡ true) → place_marked marks place ≡ true
    whole_at None name at steps h each = h
    whole_at (Some p) name at steps h each = body_at_marked (shape_at tree.members p) p refl (name_reaches tree steps) h each

    sound : (name : Bytes) → name_marked index marks name ≡ true → (steps : ℕ) × (name_reaches tree steps name ≡ true)
    sound name h = sound_at (get_by_text index.types name) name refl h

    whole : (name : Bytes) (steps : ℕ) → name_reaches tree steps name ≡ true → name_marked index marks name ≡ true
    whole name zero h = let both : false ≡ true = h in absurd (cc)
    whole name (suc steps) h =
        whole_at (get_by_text index.types name) name refl steps (sym (ap (found_reaches (name_reaches tree steps)) (at_place name)) ∙ h)
        (λ other there. whole other steps there)

    pub marks_tell : TellsFloats index tree marks
    marks_tell = record { sound = sound; whole = whole }

  -- some marked name reaches `float` in so many steps
  pub any_steps : (marks : List Bool) (names : Used) → TellsFloats index tree marks → list_any (name_marked index marks) names ≡ true
      → (steps : ℕ) × (list_any (name_reaches tree steps) names ≡ true)
  any_steps marks [] told h = let both : false ≡ true = h in absurd (cc)
  any_steps marks (name ∷ names) told h = elim (cases_Bool (name_marked index marks name)) [
    | inl here ↦ ((told.sound name here).0, or_left _ _ (told.sound name here).1)
    | inr off ↦ (let later = any_steps marks names told (or_true (name_marked index marks name) (list_any (name_marked index marks) names) h off) in
        (later.0, or_right (name_reaches tree later.0 name) _ later.1))
  ]

  pub any_marked : (marks : List Bool) (names : Used) (steps : ℕ) → TellsFloats index tree marks → list_any (name_reaches tree steps) names ≡ true
      → list_any (name_marked index marks) names ≡ true
  any_marked marks [] steps told h = h
  any_marked marks (name ∷ names) steps told h = elim (cases_Bool (name_reaches tree steps name)) [
    | inl here ↦ or_left _ _ (told.whole name steps here)
    | inr off ↦ or_right (name_marked index marks name) _ (any_marked marks names steps told (or_true (name_reaches tree steps name) (list_any (name_reaches tree steps) names) h off))
  ]

  -- `float` stands here or a marked name does, exactly where it is reached in finitely many steps
  pub reach_iff : (marks : List Bool) (here : Bool) (names : Used) → TellsFloats index tree marks
      → ((here || list_any (name_marked index marks) names) ≡ true) ↔ ((steps : ℕ) × ((here || list_any (name_reaches tree steps) names) ≡ true))
  reach_iff marks true names told = (λ h. (zero, refl), λ h. refl)
  reach_iff marks false names told = (λ h. any_steps marks names told h, λ (steps, h). any_marked marks names steps told h)
