-- the items of a UTF-8 text are UTF-8
use Rattle.std.proofs.Common.{◌≡◌, ℕ, zero, suc, ◌+◌, ◌<◌, Bool, true, false, cond, eqb, List, [], ◌∷◌, Option, Some, None, length, take, drop, get_or, map, All, IsUtf8, refl, sym, subst, arith, add-one, inl, inr}
use Rattle.std.specs.List.{prefix_len}
use Rattle.std.specs.Char.{is_ascii_alphanumeric}
use Rattle.std.specs.Str.{IsCharBoundary}
use Rattle.std.proofs.lemmas.Str.{IsUtf8-take, IsUtf8-drop, IsCharBoundary-before_ascii, IsCharBoundary-after_ascii, IsCharBoundary-end, IsCharBoundary-start}
use Rattle.std.proofs.lemmas.List.Elements.{All-nil, All-cons}
use Rattle.std.proofs.lemmas.List.Sums.{prefix_len_passes, prefix_len_stops, prefix_len-le-length}
use Rattle.std.proofs.lemmas.Bool.{cases_Bool, cases_lt, cases_eq}
use Rattle.std.proofs.lemmas.Bool.Decides.{nat_tests}
use Rattle.idl_token.specs.Lex.{Bytes, Lexeme, Begins, first_item, after_blanks, is_blank, is_mark, is_word_byte, is_note_byte, arrow, lexeme}
use Rattle.idl_token.specs.declared.tokens.Item.{Item}
use Rattle.idl_token.specs.declared.tokens.ItemKind.{ItemKind}
use Rattle.idl_token.specs.declared.tokens.ItemKind.TheVariants.{Word, Mark, Note}
use Rattle.idl_token.proofs.Starts.{word_first, mark_first, note_first}

-- each byte that passes is of ASCII
abbrev OfAscii : (ℕ → Bool) → Type 0
OfAscii test = (b : ℕ) → test b ≡ true → b < 128

blank_ascii : (b : ℕ) → is_blank b ≡ true → b < 128
blank_ascii b h = grind (arith, nat_tests)

alphanumeric_ascii : (b : ℕ) → is_ascii_alphanumeric b ≡ true → b < 128
alphanumeric_ascii b h = grind (arith, nat_tests)

mark_ascii : (b : ℕ) → is_mark b ≡ true → b < 128
mark_ascii b h = grind (arith, nat_tests)

word_ascii : (b : ℕ) → is_word_byte b ≡ true → b < 128
word_ascii b h = grind (arith, nat_tests)

note_end_ascii : (b : ℕ) → is_note_byte b ≡ false → b < 128
note_end_ascii b h = grind (arith, nat_tests)

-- a text may be cut behind a byte of ASCII and bytes that pass, where those are of ASCII
boundary_run : (test : ℕ → Bool) → OfAscii test → (b : ℕ) (bs : Bytes) → b < 128 → IsUtf8 (b ∷ bs)
    → (n : ℕ) → n ≡ prefix_len test bs → IsCharBoundary (b ∷ bs) (suc n)
boundary_run test ascii b bs low u zero is_n =
    let cut : IsCharBoundary (b ∷ bs) (0 + 1) = IsCharBoundary-after_ascii (b ∷ bs) 0 u (omega arith) low in cut
boundary_run test ascii b bs low u (suc m) is_n =
    let size = prefix_len-le-length test bs in
    let within : suc m < length (b ∷ bs) = omega arith in
    let last : m < prefix_len test bs = omega arith in
    let small : get_or bs m 0 < 128 = ascii (get_or bs m 0) (prefix_len_passes test bs m 0 last) in
    subst (λ (k : ℕ). IsCharBoundary (b ∷ bs) k) (add-one (suc m)) (IsCharBoundary-after_ascii (b ∷ bs) (suc m) u within small)

-- a text may be cut at the end of a note
boundary_note : (b : ℕ) (bs : Bytes) → IsCharBoundary (b ∷ bs) (suc (prefix_len is_note_byte bs))
boundary_note b bs =
    let size = prefix_len-le-length is_note_byte bs in
    elim (cases_lt (prefix_len is_note_byte bs) (length bs)) [
      | inl lt ↦ IsCharBoundary-before_ascii (b ∷ bs) (suc (prefix_len is_note_byte bs)) (omega arith)
          (note_end_ascii (get_or bs (prefix_len is_note_byte bs) 0) (prefix_len_stops is_note_byte bs 0 lt))
      | inr le ↦ (let all : suc (prefix_len is_note_byte bs) ≡ length (b ∷ bs) = omega arith in
          subst (λ (n : ℕ). IsCharBoundary (b ∷ bs) n) (sym all) (IsCharBoundary-end (b ∷ bs)))
    ]

-- where a text is cut into its first item and the rest
pub record Cut (bytes : Bytes) (item : Lexeme) (rest : Bytes) : Type 0 where
  pub size : ℕ
  pub boundary : IsCharBoundary bytes size
  pub front : item.1 ≡ take size bytes
  pub back : rest ≡ drop size bytes

cut_at : (bytes : Bytes) (kind : ItemKind) (n : ℕ) → IsCharBoundary bytes n → Cut bytes (kind, take n bytes) (drop n bytes)
cut_at bytes kind n cut = record { size = n; boundary = cut; front = refl; back = refl }

-- by the kind of the first item
cut_is : (bytes : Bytes) (found : Lexeme × Bytes) (item : Lexeme) (rest : Bytes) → Cut bytes found.0 found.1
    → first_item bytes ≡ Some found → first_item bytes ≡ Some (item, rest) → Cut bytes item rest
cut_is bytes found item rest cut one other =
    let same : ◌≡◌ {A = Lexeme × Bytes} found (item, rest) = cc in
    subst (λ (x : Lexeme × Bytes). Cut bytes x.0 x.1) same cut

no_eq : (a b : ℕ) → (a ≡ b → ⊥) → eqb a b ≡ false
no_eq a b h = grind (arith, nat_tests)

note_cut : (b : ℕ) (bs : Bytes) (item : Lexeme) (rest : Bytes) → first_item (b ∷ bs) ≡ Some (item, rest) → b ≡ 35 → Cut (b ∷ bs) item rest
note_cut b bs item rest h note =
    let n = prefix_len is_note_byte bs in
    cut_is (b ∷ bs) ((Note, take (suc n) (b ∷ bs)), drop (suc n) (b ∷ bs)) item rest
    (cut_at (b ∷ bs) Note (suc n) (boundary_note b bs)) (rw note (note_first bs)) h

arrow_cut : (b : ℕ) (bs : Bytes) (item : Lexeme) (rest : Bytes) → cond (eqb b 45) (arrow bs) None ≡ Some (item, rest) → IsUtf8 (b ∷ bs)
    → Cut (b ∷ bs) item rest
arrow_cut b [] item rest h u =
    elim (cases_eq b 45) [
      | inl dash ↦ (let none : ◌≡◌ {A = Option (Lexeme × Bytes)} None (Some (item, rest)) = rw dash at h in absurd (cc))
      | inr other ↦ (let none : ◌≡◌ {A = Option (Lexeme × Bytes)} None (Some (item, rest)) = rw (no_eq b 45 other) at h in absurd (cc))
    ]
arrow_cut b (x ∷ bs) item rest h u =
    elim (cases_eq b 45) [
      | inl dash ↦ elim (cases_eq x 62) [
        | inl tip ↦ (
            let found : ◌≡◌ {A = Option (Lexeme × Bytes)} (Some ((Mark, 45 ∷ 62 ∷ []), bs)) (Some (item, rest)) = rw (dash, tip) at h in
            let same : ◌≡◌ {A = Lexeme × Bytes} ((Mark, 45 ∷ 62 ∷ []), bs) (item, rest) = cc in
            let low : get_or (b ∷ x ∷ bs) 1 0 < 128 = omega arith in
            let cut : Cut (b ∷ x ∷ bs) (Mark, b ∷ x ∷ []) bs = cut_at (b ∷ x ∷ bs) Mark 2 (IsCharBoundary-after_ascii (b ∷ x ∷ bs) 1 u (omega arith) low) in
            let cut' : Cut (b ∷ x ∷ bs) (Mark, 45 ∷ 62 ∷ []) bs = subst (λ (y : ℕ). Cut (b ∷ x ∷ bs) (Mark, 45 ∷ y ∷ []) bs) tip (subst (λ (y : ℕ). Cut (b ∷ x ∷ bs) (Mark, y ∷ x ∷ []) bs) dash cut) in
            subst (λ (p : Lexeme × Bytes). Cut (b ∷ x ∷ bs) p.0 p.1) same cut')
        | inr other ↦ (let none : ◌≡◌ {A = Option (Lexeme × Bytes)} None (Some (item, rest)) = rw (dash, no_eq x 62 other) at h in absurd (cc))
      ]
      | inr other ↦ (let none : ◌≡◌ {A = Option (Lexeme × Bytes)} None (Some (item, rest)) = rw (no_eq b 45 other) at h in absurd (cc))
    ]

other_cut : (b : ℕ) (bs : Bytes) (item : Lexeme) (rest : Bytes) → first_item (b ∷ bs) ≡ Some (item, rest) → IsUtf8 (b ∷ bs)
    → is_ascii_alphanumeric b ≡ false → Cut (b ∷ bs) item rest
other_cut b bs item rest h u other =
    elim (cases_Bool (is_mark b)) [
      | inl mark ↦ cut_is (b ∷ bs) ((Mark, b ∷ []), bs) item rest
          (cut_at (b ∷ bs) Mark 1 (IsCharBoundary-after_ascii (b ∷ bs) 0 u (omega arith) (mark_ascii b mark)))
          (mark_first b bs other mark) h
      | inr no_mark ↦ elim (cases_eq b 35) [
        | inl note ↦ note_cut b bs item rest h note
        | inr no_note ↦ arrow_cut b bs item rest (rw (other, no_mark, no_eq b 35 no_note) at h) u
      ]
    ]

pub item_cut : (bytes : Bytes) (item : Lexeme) (rest : Bytes) → first_item bytes ≡ Some (item, rest) → IsUtf8 bytes → Cut bytes item rest
item_cut [] item rest h u = let found : ◌≡◌ {A = Option (Lexeme × Bytes)} None (Some (item, rest)) = h in absurd (cc)
item_cut (b ∷ bs) item rest h u =
    elim (cases_Bool (is_ascii_alphanumeric b)) [
      | inl word ↦ (let n = prefix_len is_word_byte bs in
          cut_is (b ∷ bs) ((Word, take (suc n) (b ∷ bs)), drop (suc n) (b ∷ bs)) item rest
          (cut_at (b ∷ bs) Word (suc n) (boundary_run is_word_byte word_ascii b bs (alphanumeric_ascii b word) u n refl))
          (word_first b bs word) h)
      | inr other ↦ other_cut b bs item rest h u other
    ]

-- what is left behind blanks is UTF-8
blank_boundary : (bytes : Bytes) → IsUtf8 bytes → (n : ℕ) → n ≡ prefix_len is_blank bytes → IsCharBoundary bytes n
blank_boundary bytes u zero is_n = IsCharBoundary-start bytes u
blank_boundary bytes u (suc m) is_n =
    let size = prefix_len-le-length is_blank bytes in
    let last : m < prefix_len is_blank bytes = omega arith in
    let low : get_or bytes m 0 < 128 = blank_ascii (get_or bytes m 0) (prefix_len_passes is_blank bytes m 0 last) in
    let within : m < length bytes = omega arith in
    subst (λ (k : ℕ). IsCharBoundary bytes k) (add-one m) (IsCharBoundary-after_ascii bytes m u within low)

blanks_utf8 : (bytes : Bytes) → IsUtf8 bytes → IsUtf8 (after_blanks bytes)
blanks_utf8 bytes u = IsUtf8-drop bytes (prefix_len is_blank bytes) u (blank_boundary bytes u (prefix_len is_blank bytes) refl)

pub utf8_items : (items : List Item) (text rest : Bytes) → IsUtf8 text → Begins (map lexeme items) text rest
    → All (λ item. IsUtf8 item.text.now) items
utf8_items [] text rest u b = All-nil (λ (item : Item). IsUtf8 item.text.now)
utf8_items (i ∷ is) text rest u (more, found, b) =
    let v : IsUtf8 (after_blanks text) = blanks_utf8 text u in
    let cut : Cut (after_blanks text) (lexeme i) more = item_cut (after_blanks text) (lexeme i) more found v in
    let front : IsUtf8 i.text.now = subst (λ (t : Bytes). IsUtf8 t) (sym cut.front) (IsUtf8-take (after_blanks text) cut.size v cut.boundary) in
    let back : IsUtf8 more = subst (λ (t : Bytes). IsUtf8 t) (sym cut.back) (IsUtf8-drop (after_blanks text) cut.size v cut.boundary) in
    All-cons (λ (item : Item). IsUtf8 item.text.now) i is front (utf8_items is more rest back b)
