-- a note without the spaces and tabs at its end
use Rattle.std.proofs.Common.{◌≡◌, ℕ, zero, suc, ◌-◌, ◌<◌, Bool, true, false, ◌&&◌, ◌||◌, not, cond, eqb, [], ◌∷◌, ◌++◌, length, take, get_or, IsUtf8, refl, sym, ap, subst, ◌∙◌, arith}
use Rattle.std.specs.List.{list_all}
use Rattle.std.specs.Str.{is_utf8}
use Rattle.std.proofs.lemmas.List.{take_at}
use Rattle.std.proofs.lemmas.Bool.{and_parts, and_from, cond-true, cond-false, not-true}
use Rattle.std.proofs.lemmas.Bool.Decides.{nat_tests}
use Rattle.std.proofs.lemmas.Str.{IsUtf8-take, IsUtf8-from_ascii, IsCharBoundary-at_seam}
use Rattle.idl_token.specs.Lex.{Bytes}
use Rattle.idl_tree.specs.Form.{is_note}
use Rattle.idl_rules.specs.Settle.{trimmed, before_trimmed, is_gap}

-- the last byte of a text, or 0
abbrev pub last_of : Bytes → ℕ
last_of text = get_or text (length text - 1) 0

last_more : (b c : ℕ) (bytes : Bytes) → last_of (b ∷ c ∷ bytes) ≡ last_of (c ∷ bytes)
last_more b c bytes =
    let one : length (b ∷ c ∷ bytes) - 1 ≡ suc (length bytes) = omega arith in
    let other : length (c ∷ bytes) - 1 ≡ length bytes = omega arith in
    ap (λ (i : ℕ). get_or (b ∷ c ∷ bytes) i 0) one ∙ sym (ap (λ (i : ℕ). get_or (c ∷ bytes) i 0) other)

pub trimmed_bare : (text : Bytes) → is_gap (last_of text) ≡ false → trimmed text ≡ text
trimmed_bare [] h = refl
trimmed_bare (b ∷ []) h = cond-false (is_gap b) [] (b ∷ []) h
trimmed_bare (b ∷ c ∷ bytes) h =
    ap (before_trimmed b) (trimmed_bare (c ∷ bytes) (ap is_gap (sym (last_more b c bytes)) ∙ h))

-- a note of a tree is trimmed
pub trimmed_note : (text : Bytes) → is_note text ≡ true → trimmed text ≡ text
trimmed_note text h =
    trimmed_bare text (not-true _ (and_parts (is_utf8 text && list_all (λ b. not (eqb b 13 || eqb b 10)) text) (not (is_gap (last_of text))) h).1)

by_bool : (P : Bool → Type 0) (test : Bool) → (test ≡ true → P true) → (test ≡ false → P false) → P test
by_bool P true fit other = fit refl
by_bool P false fit other = other refl

one_last : (b : ℕ) → last_of (b ∷ []) ≡ b
one_last b = let zero_at : length (b ∷ []) - 1 ≡ 0 = omega arith in ap (λ (i : ℕ). get_or (b ∷ []) i 0) zero_at

before_last : (b : ℕ) (rest : Bytes) → is_gap (last_of rest) ≡ false → is_gap (last_of (before_trimmed b rest)) ≡ false
before_last b [] h =
    by_bool (λ (t : Bool). is_gap b ≡ t → is_gap (last_of (cond t [] (b ∷ []))) ≡ false) (is_gap b)
    (λ e again. refl) (λ e again. ap is_gap (one_last b) ∙ e) refl
before_last b (c ∷ bytes) h = ap is_gap (last_more b c bytes) ∙ h

pub trimmed_last : (text : Bytes) → is_gap (last_of (trimmed text)) ≡ false
trimmed_last [] = refl
trimmed_last (b ∷ bytes) = before_last b (trimmed bytes) (trimmed_last bytes)

before_all : (p : ℕ → Bool) (b : ℕ) (rest : Bytes) → p b ≡ true → list_all p rest ≡ true → list_all p (before_trimmed b rest) ≡ true
before_all p b [] h k = by_bool (λ (t : Bool). list_all p (cond t [] (b ∷ [])) ≡ true) (is_gap b) (λ e. refl) (λ e. and_from (p b) true h refl)
before_all p b (c ∷ bytes) h k = and_from (p b) (list_all p (c ∷ bytes)) h k

pub trimmed_all : (p : ℕ → Bool) (text : Bytes) → list_all p text ≡ true → list_all p (trimmed text) ≡ true
trimmed_all p [] h = refl
trimmed_all p (b ∷ bytes) h = let q = and_parts (p b) (list_all p bytes) h in before_all p b (trimmed bytes) q.0 (trimmed_all p bytes q.1)

-- what was cut off
pub record Split (text : Bytes) : Type 0 where
  pub gaps : Bytes
  pub whole : text ≡ trimmed text ++ gaps
  pub are_gaps : list_all is_gap gaps ≡ true

split_more : (b : ℕ) (bytes rest gaps : Bytes) → bytes ≡ rest ++ gaps → list_all is_gap gaps ≡ true
    → (more : Bytes) × (b ∷ bytes ≡ before_trimmed b rest ++ more) × (list_all is_gap more ≡ true)
split_more b bytes [] gaps e h =
    by_bool (λ (t : Bool). is_gap b ≡ t → (more : Bytes) × (b ∷ bytes ≡ cond t [] (b ∷ []) ++ more) × (list_all is_gap more ≡ true)) (is_gap b)
    (λ gap again. (b ∷ gaps, ap (λ (x : Bytes). b ∷ x) e, and_from (is_gap b) (list_all is_gap gaps) gap h))
    (λ gap again. (gaps, ap (λ (x : Bytes). b ∷ x) e, h)) refl
split_more b bytes (c ∷ rest) gaps e h = (gaps, ap (λ (x : Bytes). b ∷ x) e, h)

pub split : (text : Bytes) → Split text
split [] = record { gaps = []; whole = refl; are_gaps = refl }
split (b ∷ bytes) =
    let s = split bytes in
    let m = split_more b bytes (trimmed bytes) s.gaps s.whole s.are_gaps in
    record { gaps = m.0; whole = m.1; are_gaps = m.2 }

gap_ascii : (b : ℕ) → is_gap b ≡ true → b < 128
gap_ascii b h = grind (arith, nat_tests)

gaps_ascii : (gaps : Bytes) → list_all is_gap gaps ≡ true → (i : ℕ) → get_or gaps i 0 < 128
gaps_ascii [] h i = omega arith
gaps_ascii (b ∷ gaps) h zero = gap_ascii b (and_parts (is_gap b) (list_all is_gap gaps) h).0
gaps_ascii (b ∷ gaps) h (suc i) = gaps_ascii gaps (and_parts (is_gap b) (list_all is_gap gaps) h).1 i

gaps_utf8 : (gaps : Bytes) → list_all is_gap gaps ≡ true → IsUtf8 gaps
gaps_utf8 gaps h = IsUtf8-from_ascii gaps (gaps_ascii gaps h)

pub trimmed_utf8 : (text : Bytes) → IsUtf8 text → IsUtf8 (trimmed text)
trimmed_utf8 text u =
    let s = split text in
    subst (λ (t : Bytes). IsUtf8 t) (ap (take (length (trimmed text))) s.whole ∙ take_at (trimmed text) s.gaps (length (trimmed text)) refl)
    (IsUtf8-take text (length (trimmed text)) u (IsCharBoundary-at_seam text (trimmed text) s.gaps s.whole (gaps_utf8 s.gaps s.are_gaps)))

-- a gap at the end goes
pub trimmed_gap : (text : Bytes) (b : ℕ) → is_gap b ≡ true → trimmed (text ++ b ∷ []) ≡ trimmed text
trimmed_gap [] b h = cond-true (is_gap b) [] (b ∷ []) h
trimmed_gap (c ∷ text) b h = ap (before_trimmed c) (trimmed_gap text b h)

before_more : (c : ℕ) (text : Bytes) (b : ℕ) → before_trimmed c (text ++ b ∷ []) ≡ c ∷ text ++ b ∷ []
before_more c [] b = refl
before_more c (d ∷ text) b = refl

-- any other byte at the end stays
pub trimmed_other : (text : Bytes) (b : ℕ) → is_gap b ≡ false → trimmed (text ++ b ∷ []) ≡ text ++ b ∷ []
trimmed_other [] b h = cond-false (is_gap b) [] (b ∷ []) h
trimmed_other (c ∷ text) b h = ap (before_trimmed c) (trimmed_other text b h) ∙ before_more c text b
