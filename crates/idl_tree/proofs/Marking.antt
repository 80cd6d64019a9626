-- marking places one after another
use Rattle.std.proofs.Common.{◌≡◌, ℕ, suc, ◌<◌, Bool, true, false, ◌||◌, ◌==◌, List, [], ◌∷◌, ◌++◌, length, refl, sym, subst, ◌∙◌, inl, inr, arith}
use Rattle.std.proofs.lemmas.Bool.{cases_Bool, eqb-true}
use Rattle.std.proofs.lemmas.List.Folds.{list_any-append}
use Rattle.idl_tree.specs.Marks.{has, is_marked, users_at, Reached, Marked}

or_split : (a b : Bool) → (a || (b || false)) ≡ true → (a ≡ false) → b ≡ true
or_split true b h off = let off : true ≡ false = off in absurd (cc)
or_split false true h off = refl
or_split false false h off = h

pub has_last : (places : List ℕ) (place i : ℕ) → has i (places ++ place ∷ []) ≡ true → has i places ≡ false → (place == i) ≡ true
has_last places place i h off = or_split (has i places) (place == i) (rw list_any-append at h) off

or_left : (a b : Bool) → a ≡ true → (a || b) ≡ true
or_left a b h = rw h refl

pub has_more : (places more : List ℕ) (i : ℕ) → has i places ≡ true → has i (places ++ more) ≡ true
has_more places more i h = rw list_any-append (or_left (has i places) _ h)

or_right : (a b : Bool) → b ≡ true → (a || (b || false)) ≡ true
or_right true b h = refl
or_right false b h = rw h refl

pub has_end : (places : List ℕ) (place i : ℕ) → (place == i) ≡ true → has i (places ++ place ∷ []) ≡ true
has_end places place i h = rw list_any-append (or_right (has i places) (place == i) h)

-- one place taken, and its users marked
module _ (users : List (List ℕ)) (initial old new : List Bool) (before after : List ℕ) (place : ℕ) (step : Marked (users_at users place) old new before after) where
  pub reaches : ((i : ℕ) → is_marked old i ≡ true → Reached users initial i) → is_marked old place ≡ true
      → (i : ℕ) → is_marked new i ≡ true → Reached users initial i
  reaches reached here i h = elim (cases_Bool (is_marked old i)) [
    | inl stood ↦ reached i stood
    | inr off ↦ (suc (reached place here).0, (place, ((reached place here).1, (step.only i h off).0)))
  ]

  pub waits : ((i : ℕ) → has i (before ++ place ∷ []) ≡ true → is_marked old i ≡ true) → (i : ℕ) → has i after ≡ true → is_marked new i ≡ true
  waits waiting i h = elim (cases_Bool (has i before)) [
    | inl stood ↦ step.kept i (waiting i (has_more before (place ∷ []) i stood))
    | inr off ↦ step.fresh i h off
  ]

  absent : (j : ℕ) → has j after ≡ false → has j before ≡ false
  absent j gone = elim (cases_Bool (has j before)) [
    | inl stood ↦ (let both : true ≡ false = sym (step.stay j stood) ∙ gone in absurd (cc))
    | inr off ↦ off
  ]

  pub takes : ((j i : ℕ) → is_marked old j ≡ true → has j (before ++ place ∷ []) ≡ false → has i (users_at users j) ≡ true → i < length old → is_marked old i ≡ true)
      → (j i : ℕ) → is_marked new j ≡ true → has j after ≡ false → has i (users_at users j) ≡ true → i < length new → is_marked new i ≡ true
  takes taken j i h gone user within = elim (cases_Bool (is_marked old j)) [
    | inl stood ↦ elim (cases_Bool (place == j)) [
      | inl same ↦ step.done i (subst (λ (k : ℕ). has i (users_at users k) ≡ true) (sym (eqb-true place j same)) user) within
      | inr other ↦ (let here : has j before ≡ false = absent j gone in
          step.kept i (taken j i stood (rw (list_any-append, here, other) refl) user (omega (arith, step.size))))
    ]
    | inr off ↦ (let both : true ≡ false = sym (step.only j h off).1 ∙ gone in absurd (cc))
  ]
