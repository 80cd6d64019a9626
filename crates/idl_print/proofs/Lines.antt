-- the lines of an opened bracket
use Rattle.std.proofs.Common.{◌≡◌, ℕ, suc, ◌+◌, ◌-◌, ◌<◌, Bool, true, false, ◌&&◌, cond, nat_lt, List, [], ◌∷◌, ◌++◌, map, length, drop, get_or, codes, refl, sym, ap, ◌∙◌, append_assoc, arith}
use Rattle.std.specs.Prelude.{◌==◌}
use Rattle.std.proofs.lemmas.List.{drop_more, length-drop}
use Rattle.std.proofs.lemmas.Bool.{lt-ltb}
use Rattle.std.proofs.lemmas.Bool.Decides.{nat_tests}
use Rattle.idl_token.specs.Lex.{Bytes}
use Rattle.idl_rules.specs.Canon.{Entry, entry_line, entry_lines, note_lines, comma_behind, opened_body, line_end, spaces}

module _ {X : Type 0} (entry : X → Entry) where
  comma_is : (xs : List X) → comma_behind (map entry xs) ≡ cond (nat_lt 0 (length xs)) (codes ",") []
  comma_is [] = refl
  comma_is (x ∷ xs) = rw (lt-ltb 0 (suc (length xs)) (omega arith)) refl

  more_left : (a b : ℕ) → nat_lt 0 (b - (a + 1)) ≡ nat_lt (a + 1) b
  more_left a b = grind (arith, nat_tests)

  -- the line of the entry at a place, and those behind it
  pub entry_lines_more : (xs : List X) (i : ℕ) (x : X) (indent : ℕ) → i < length xs → x ≡ get_or xs i x
      → entry_lines indent (map entry (drop i xs))
      ≡ (note_lines indent (entry x).notes ++ entry_line indent (entry x).text (cond (nat_lt (i + 1) (length xs)) (codes ",") [])) ++ entry_lines indent (map entry (drop (i + 1) xs))
  entry_lines_more xs i x indent within at =
      let cut : drop i xs ≡ x ∷ drop (i + 1) xs = drop_more xs i x within ∙ ap (λ (y : X). y ∷ drop (i + 1) xs) (sym at) in
      let comma : comma_behind (map entry (drop (i + 1) xs)) ≡ cond (nat_lt (i + 1) (length xs)) (codes ",") [] =
      comma_is (drop (i + 1) xs) ∙ ap (λ (b : Bool). cond b (codes ",") []) (ap (λ (n : ℕ). nat_lt 0 n) (length-drop (i + 1) xs) ∙ more_left i (length xs)) in
      rw (cut, comma) refl

  -- one entry more is printed
  pub printed_more : (xs : List X) (i : ℕ) (x : X) (indent : ℕ) → i < length xs → x ≡ get_or xs i x
      → (old new all : Bytes) (comma : Bytes) → comma ≡ cond (nat_lt (i + 1) (length xs)) (codes ",") []
      → new ≡ old ++ (note_lines indent (entry x).notes ++ entry_line indent (entry x).text comma)
      → old ++ entry_lines indent (map entry (drop i xs)) ≡ all
      → new ++ entry_lines indent (map entry (drop (i + 1) xs)) ≡ all
  printed_more xs i x indent within at old new all comma is_comma printed left =
      let here = note_lines indent (entry x).notes ++ entry_line indent (entry x).text (cond (nat_lt (i + 1) (length xs)) (codes ",") []) in
      rw (printed, is_comma)
      (append_assoc old here (entry_lines indent (map entry (drop (i + 1) xs)))
      ∙ ap (λ (bytes : Bytes). old ++ bytes) (sym (entry_lines_more xs i x indent within at)) ∙ left)

-- what an opened bracket is where it is not bare
pub opened_is : (entries : List Entry) (ending : List Bytes) (indent : ℕ) → (length entries == 0 && length ending == 0) ≡ false
    → opened_body entries ending indent
    ≡ codes "(" ++ line_end ++ entry_lines (indent + 2) entries ++ note_lines (indent + 2) ending ++ spaces indent ++ codes ")"
opened_is [] [] indent h = let no : true ≡ false = h in absurd (cc)
opened_is [] (note ∷ notes) indent h = refl
opened_is (entry ∷ entries) ending indent h = refl

-- a bracket that is not bare, printed piece by piece
pub opened_printed : (entries : List Entry) (ending : List Bytes) (indent inner : ℕ) (old begun filled new : Bytes)
    → inner ≡ indent + 2 → (length entries == 0 && length ending == 0) ≡ false
    → begun ≡ old ++ 40 ∷ 10 ∷ [] → filled ≡ begun ++ entry_lines inner entries
    → new ≡ filled ++ (note_lines inner ending ++ (spaces indent ++ codes ")"))
    → new ≡ old ++ opened_body entries ending indent
opened_printed entries ending indent inner old begun filled new deeper full b f n =
    rw (n, f, b, deeper, opened_is entries ending indent full) (simp append_assoc)
