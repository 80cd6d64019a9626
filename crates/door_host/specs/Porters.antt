-- How the workers of a registry are numbered.
use Rattle.std.specs.Prelude.{◌≡◌, ℕ, ◌+◌, List, [], ◌∷◌, length, ⊤}

-- the last worker has this number, and each one before it one more
abbrev pub AreNumberedFrom : {A : Type 0} → (A → ℕ) → ℕ → List A → Type 0
AreNumberedFrom number first [] = ⊤
AreNumberedFrom number first (item ∷ items) = (number item ≡ length items + first) × AreNumberedFrom number first items
