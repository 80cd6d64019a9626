-- Places that are reached backwards along edges from marked ones.
use Rattle.std.specs.Prelude.{◌≡◌, ℕ, zero, suc, ◌<◌, ◌≤◌, ◌+◌, ◌*◌, Bool, true, false, not, ◌==◌, List, [], length, slice_index_or, count_by}
use Rattle.std.specs.List.{list_any}

abbrev pub has : ℕ → List ℕ → Bool
has i places = list_any (λ place. place == i) places

abbrev pub is_marked : List Bool → ℕ → Bool
is_marked marks i = slice_index_or marks i false

abbrev pub users_at : List (List ℕ) → ℕ → List ℕ
users_at users j = slice_index_or users j []

-- marked, or a user of a place that is reached in one step less
abbrev pub Within : List (List ℕ) → List Bool → ℕ → ℕ → Type 0
Within users marks zero i = is_marked marks i ≡ true
Within users marks (suc steps) i =
    (j : ℕ) × ((Within users marks steps j) × (has i (users_at users j) ≡ true))

abbrev pub Reached : List (List ℕ) → List Bool → ℕ → Type 0
Reached users marks i = (steps : ℕ) × Within users marks steps i

-- the users of marked places are marked
abbrev pub Closed : List (List ℕ) → List Bool → Type 0
Closed users marks = (j i : ℕ) → is_marked marks j ≡ true → has i (users_at users j) ≡ true
    → i < length marks → is_marked marks i ≡ true

abbrev pub unmarked : List Bool → ℕ
unmarked marks = count_by (λ mark. not mark) marks

-- what the marking of places does to the marks, and to the places that wait to be taken
pub record Marked (places : List ℕ) (old new : List Bool) (before after : List ℕ) : Type 0 where
  pub size : length new ≡ length old
  pub kept : (i : ℕ) → is_marked old i ≡ true → is_marked new i ≡ true
  pub done : (i : ℕ) → has i places ≡ true → i < length new → is_marked new i ≡ true
  pub only : (i : ℕ) → is_marked new i ≡ true → is_marked old i ≡ false
      → (has i places ≡ true) × (has i after ≡ true)
  pub stay : (i : ℕ) → has i before ≡ true → has i after ≡ true
  pub fresh : (i : ℕ) → has i after ≡ true → has i before ≡ false → is_marked new i ≡ true
  pub work : 2 * unmarked new + length after ≤ 2 * unmarked old + length before
