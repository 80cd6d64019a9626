-- the last prefix, by its place
use Rattle.std.proofs.Common.{◌≡◌, ℕ, suc, ◌-◌, Bool, false, List, [], ◌∷◌, Option, Some, None, length, refl, sym, ap, ◌∙◌, arith}
use Rattle.std.specs.List.{slice_get}
use Rattle.idl_tree.specs.declared.trees.Prefix.{Prefix}
use Rattle.idl_tree.specs.declared.trees.Prefix.TheVariants.{Array, Map, Maybe}
use Rattle.idl_rules.specs.Reading.{is_maybe, ends_with_maybe}

abbrev pub last_maybe : Option Prefix → Bool
last_maybe None = false
last_maybe (Some prefix) = is_maybe prefix

last_more : (prefix next : Prefix) (prefixes : List Prefix) → slice_get (prefix ∷ next ∷ prefixes) (length (prefix ∷ next ∷ prefixes) - 1) ≡ slice_get (next ∷ prefixes) (length (next ∷ prefixes) - 1)
last_more prefix next prefixes =
    let one : length (prefix ∷ next ∷ prefixes) - 1 ≡ suc (length prefixes) = omega arith in
    let other : length (next ∷ prefixes) - 1 ≡ length prefixes = omega arith in
    ap (λ (i : ℕ). slice_get (prefix ∷ next ∷ prefixes) i) one ∙ sym (ap (λ (i : ℕ). slice_get (next ∷ prefixes) i) other)

pub ends_last : (prefixes : List Prefix) → ends_with_maybe prefixes ≡ last_maybe (slice_get prefixes (length prefixes - 1))
ends_last [] = refl
ends_last (Array ∷ []) = refl
ends_last (Map ∷ []) = refl
ends_last (Maybe ∷ []) = refl
ends_last (Array ∷ next ∷ prefixes) = ends_last (next ∷ prefixes) ∙ ap last_maybe (sym (last_more Array next prefixes))
ends_last (Map ∷ next ∷ prefixes) = ends_last (next ∷ prefixes) ∙ ap last_maybe (sym (last_more Map next prefixes))
ends_last (Maybe ∷ next ∷ prefixes) = ends_last (next ∷ prefixes) ∙ ap last_maybe (sym (last_more Maybe next prefixes))
