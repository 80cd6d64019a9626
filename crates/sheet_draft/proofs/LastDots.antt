-- where a name is split
use Rattle.std.proofs.Common.{◌≡◌, ◌≢◌, ◌<◌, ℕ, zero, suc, ◌==◌, [], ◌∷◌, length, get_or, take, drop, Some, None, refl, ap, ◌∙◌, arith, lit<}
use Rattle.std.specs.Str.{NoCharPasses}
use Rattle.std.specs.Str.Pattern.{HasCharAt}
use Rattle.std.proofs.lemmas.Str.Pattern.{NoCharPasses-char, drop_at_char}
use Rattle.idl_tree.specs.Names.{Bytes}
use Rattle.sheet_draft.specs.Outlines.{at_last_dot, with_first}

abbrev pub HasNoDot : Bytes → Type 0
HasNoDot name = (i : ℕ) → i < length name → get_or name i 0 ≢ 46

is_no_dot : (b : ℕ) (bytes : Bytes) → b ≢ 46 → with_first b bytes None ≡ None
is_no_dot b bytes h = grind (arith, h)

no_dot : (name : Bytes) → HasNoDot name → at_last_dot name ≡ None
no_dot [] h = refl
no_dot (b ∷ bytes) h =
    ap (with_first b bytes) (no_dot bytes (λ i within. h (suc i) (omega (arith, within)))) ∙ is_no_dot b bytes (h 0 (omega arith))

first_dot : (rest : Bytes) → HasNoDot rest → at_last_dot (46 ∷ rest) ≡ Some ([], rest)
first_dot rest behind = ap (with_first 46 rest) (no_dot rest behind)

split_at : (s : Bytes) (i : ℕ) (rest : Bytes) → drop i s ≡ 46 ∷ rest → HasNoDot rest → at_last_dot s ≡ Some (take i s, rest)
split_at [] zero rest is behind = let no : [] ≡ 46 ∷ rest = is in absurd (cc)
split_at [] (suc i) rest is behind = let no : [] ≡ 46 ∷ rest = is in absurd (cc)
split_at (b ∷ bytes) zero rest is behind = ap at_last_dot is ∙ first_dot rest behind
split_at (b ∷ bytes) (suc i) rest is behind = ap (with_first b bytes) (split_at bytes i rest is behind)

pub split_here : (s : Bytes) (i j : ℕ) → NoCharPasses (λ d. d == 46) (drop j s) → HasCharAt 46 s i j
    → at_last_dot s ≡ Some (take i s, drop j s)
split_here s i j none at =
    split_at s i (drop j s) (drop_at_char 46 s i j at (lit< tt)) (λ k within. NoCharPasses-char 46 (drop j s) k none (lit< tt) within)

pub never_split : (s : Bytes) → NoCharPasses (λ d. d == 46) s → at_last_dot s ≡ None
never_split s none = no_dot s (λ k within. NoCharPasses-char 46 s k none (lit< tt) within)
