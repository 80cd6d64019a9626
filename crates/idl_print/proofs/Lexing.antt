-- texts that are cut into given items, whatever stands behind them
use Rattle.std.proofs.Common.{◌≡◌, ℕ, zero, suc, ◌+◌, ◌<◌, Bool, true, false, ◌&&◌, cond, [], ◌∷◌, ◌++◌, Some, length, take, drop, get_or, replicate, codes, IsUtf8, refl, sym, ap, subst, ◌∙◌, append_assoc, arith}
use Rattle.std.specs.List.{list_all, prefix_len}
use Rattle.std.specs.Char.{is_ascii, is_ascii_alphanumeric}
use Rattle.std.proofs.lemmas.List.{append-nil}
use Rattle.std.proofs.lemmas.Bool.{and_parts, and_from, true≢false}
use Rattle.std.proofs.lemmas.Bool.Decides.{nat_tests}
use Rattle.std.proofs.lemmas.Str.{IsUtf8-append, IsUtf8-nil, IsUtf8-from_ascii}
use Rattle.idl_token.specs.Lex.{Bytes, Lexemes, Begins, first_item, after_blanks, in_front, behind, is_blank, is_mark, is_word_byte, is_note_byte}
use Rattle.idl_token.proofs.Starts.{word_first, mark_first, note_first, arrow_first}
use Rattle.idl_rules.specs.Items.{word, mark, note, arrow}

-- the text is those items, with any blanks before, between and after them
abbrev pub Whole : Lexemes → Bytes → Type 0
Whole [] text = after_blanks text ≡ []
Whole (item ∷ items) text = (more : Bytes) × (first_item (after_blanks text) ≡ Some (item, more)) × Whole items more

pub begun : (items : Lexemes) (text : Bytes) → Whole items text → (rest : Bytes) × Begins items text rest × (after_blanks rest ≡ [])
begun [] text e = (text, refl, e)
begun (item ∷ items) text (more, found, whole) = let r = begun items more whole in (r.0, (more, found, r.1), r.2)

-- any text, and one that continues no word
abbrev pub Any : Bytes → Type 0
Any rest = Unit {0}

abbrev pub Calm : Bytes → Type 0
Calm [] = Unit {0}
Calm (b ∷ bytes) = is_word_byte b ≡ false

-- the text is those items before all that fits
pub record Piece (Fits : Bytes → Type 0) (items : Lexemes) (text : Bytes) : Type 0 where
  pub utf8 : IsUtf8 text
  pub lexes : (more : Lexemes) (rest : Bytes) → Fits rest → Whole more rest → Whole (items ++ more) (text ++ rest)

-- one text and then another
pub both : (P Q : Bytes → Type 0) (xs ys : Lexemes) (a b : Bytes) → Piece P xs a → Piece Q ys b
    → ((rest : Bytes) → Q rest → P (b ++ rest)) → Piece Q (xs ++ ys) (a ++ b)
both P Q xs ys a b one other fits = record {
  utf8 = IsUtf8-append a b one.utf8 other.utf8;
  lexes = λ more rest q whole.
      subst (λ (t : Bytes). Whole ((xs ++ ys) ++ more) t) (sym (append_assoc a b rest))
      (subst (λ (is : Lexemes). Whole is (a ++ (b ++ rest))) (sym (append_assoc xs ys more))
      (one.lexes (ys ++ more) (b ++ rest) (fits rest q) (other.lexes more rest q whole)));
}

pub same_items : (P : Bytes → Type 0) (xs ys : Lexemes) (a : Bytes) → xs ≡ ys → Piece P xs a → Piece P ys a
same_items P xs ys a e piece = subst (λ (is : Lexemes). Piece P is a) e piece

pub calm : (xs : Lexemes) (a : Bytes) → Piece Any xs a → Piece Calm xs a
calm xs a piece = record { utf8 = piece.utf8; lexes = λ more rest q whole. piece.lexes more rest tt whole }

pub nothing : (P : Bytes → Type 0) → Piece P [] []
nothing P = record { utf8 = IsUtf8-nil; lexes = λ more rest q whole. whole }

-- blanks
blank_skips : (b : ℕ) (rest : Bytes) → is_blank b ≡ true → after_blanks (b ∷ rest) ≡ after_blanks rest
blank_skips b rest h =
    let one : 1 + prefix_len is_blank rest ≡ suc (prefix_len is_blank rest) = omega arith in
    ap (λ (t : Bool). drop (cond t (1 + prefix_len is_blank rest) 0) (b ∷ rest)) h ∙ ap (λ (n : ℕ). drop n (b ∷ rest)) one

not_blank : (b : ℕ) (rest : Bytes) → is_blank b ≡ false → after_blanks (b ∷ rest) ≡ b ∷ rest
not_blank b rest h = ap (λ (t : Bool). drop (cond t (1 + prefix_len is_blank rest) 0) (b ∷ rest)) h

blank_whole : (more : Lexemes) (b : ℕ) (rest : Bytes) → is_blank b ≡ true → Whole more rest → Whole more (b ∷ rest)
blank_whole [] b rest h whole = blank_skips b rest h ∙ whole
blank_whole (item ∷ items) b rest h (next, found, whole) = (next, ap first_item (blank_skips b rest h) ∙ found, whole)

blanks_whole : (bytes : Bytes) (more : Lexemes) (rest : Bytes) → list_all is_blank bytes ≡ true → Whole more rest → Whole more (bytes ++ rest)
blanks_whole [] more rest h whole = whole
blanks_whole (b ∷ bytes) more rest h whole =
    let p = and_parts (is_blank b) (list_all is_blank bytes) h in
    blank_whole more b (bytes ++ rest) p.0 (blanks_whole bytes more rest p.1 whole)

-- bytes of ASCII
pub all_ascii : (test : ℕ → Bool) → ((b : ℕ) → test b ≡ true → b < 128) → (bytes : Bytes) → list_all test bytes ≡ true → (i : ℕ) → get_or bytes i 0 < 128
all_ascii test low [] h i = omega arith
all_ascii test low (b ∷ bytes) h zero = low b (and_parts (test b) (list_all test bytes) h).0
all_ascii test low (b ∷ bytes) h (suc i) = all_ascii test low bytes (and_parts (test b) (list_all test bytes) h).1 i

ascii_low : (b : ℕ) → is_ascii b ≡ true → b < 128
ascii_low b h = grind (arith, nat_tests)

ascii_text : (bytes : Bytes) → list_all is_ascii bytes ≡ true → IsUtf8 bytes
ascii_text bytes h = IsUtf8-from_ascii bytes (all_ascii is_ascii ascii_low bytes h)

blank_ascii : (b : ℕ) → is_blank b ≡ true → b < 128
blank_ascii b h = grind (arith, nat_tests)

word_ascii : (b : ℕ) → is_word_byte b ≡ true → b < 128
word_ascii b h = grind (arith, nat_tests)

pub blanks : (bytes : Bytes) → list_all is_blank bytes ≡ true → Piece Any [] bytes
blanks bytes h = record {
  utf8 = IsUtf8-from_ascii bytes (all_ascii is_blank blank_ascii bytes h);
  lexes = λ more rest q whole. blanks_whole bytes more rest h whole;
}

-- a text and blanks behind it
pub before_blanks : (P : Bytes → Type 0) (xs : Lexemes) (a b : Bytes) → Piece P xs a → list_all is_blank b ≡ true → ((rest : Bytes) → P (b ++ rest)) → Piece Any xs (a ++ b)
before_blanks P xs a b piece h fits =
    same_items Any (xs ++ []) xs (a ++ b) (append-nil xs) (both P Any xs [] a b piece (blanks b h) (λ rest q. fits rest))

-- a text and blanks before it
pub behind_blanks : (P : Bytes → Type 0) (xs : Lexemes) (a b : Bytes) → list_all is_blank a ≡ true → Piece P xs b → Piece P xs (a ++ b)
behind_blanks P xs a b h piece = both Any P [] xs a b (blanks a h) piece (λ rest q. tt)

spaces_blank : (n : ℕ) → list_all is_blank (replicate n 32) ≡ true
spaces_blank zero = refl
spaces_blank (suc n) = spaces_blank n

pub behind_spaces : (P : Bytes → Type 0) (xs : Lexemes) (n : ℕ) (b : Bytes) → Piece P xs b → Piece P xs (replicate n 32 ++ b)
behind_spaces P xs n b piece = behind_blanks P xs (replicate n 32) b (spaces_blank n) piece

-- a run of bytes that pass
run_ends : (test : ℕ → Bool) (bytes rest : Bytes) → list_all test bytes ≡ true → prefix_len test rest ≡ 0 → prefix_len test (bytes ++ rest) ≡ length bytes
run_ends test [] rest h e = e
run_ends test (b ∷ bytes) rest h e =
    let p = and_parts (test b) (list_all test bytes) h in
    let one : 1 + length bytes ≡ length (b ∷ bytes) = omega arith in
    ap (λ (t : Bool). cond t (1 + prefix_len test (bytes ++ rest)) 0) p.0 ∙ ap (λ (n : ℕ). 1 + n) (run_ends test bytes rest p.1 e) ∙ one

front_is : (bytes rest : Bytes) → take (length bytes) (bytes ++ rest) ≡ bytes
front_is [] rest = refl
front_is (b ∷ bytes) rest = ap (λ (t : Bytes). b ∷ t) (front_is bytes rest)

back_is : (bytes rest : Bytes) → drop (length bytes) (bytes ++ rest) ≡ rest
back_is [] rest = refl
back_is (b ∷ bytes) rest = back_is bytes rest

run_front : (test : ℕ → Bool) (bytes rest : Bytes) → list_all test bytes ≡ true → prefix_len test rest ≡ 0 → in_front test (bytes ++ rest) ≡ bytes
run_front test bytes rest h e = ap (λ (n : ℕ). take n (bytes ++ rest)) (run_ends test bytes rest h e) ∙ front_is bytes rest

run_back : (test : ℕ → Bool) (bytes rest : Bytes) → list_all test bytes ≡ true → prefix_len test rest ≡ 0 → behind test (bytes ++ rest) ≡ rest
run_back test bytes rest h e = ap (λ (n : ℕ). drop n (bytes ++ rest)) (run_ends test bytes rest h e) ∙ back_is bytes rest

-- words
abbrev pub is_spelt : Bytes → Bool
is_spelt [] = false
is_spelt (b ∷ bytes) = is_ascii_alphanumeric b && list_all is_word_byte bytes

first_no_blank : (b : ℕ) → is_ascii_alphanumeric b ≡ true → is_blank b ≡ false
first_no_blank b h = grind (arith, nat_tests)

first_word : (b : ℕ) → is_ascii_alphanumeric b ≡ true → is_word_byte b ≡ true
first_word b h = grind (arith, nat_tests)

calm_ends : (rest : Bytes) → Calm rest → prefix_len is_word_byte rest ≡ 0
calm_ends [] q = refl
calm_ends (b ∷ bytes) q = ap (λ (t : Bool). cond t (1 + prefix_len is_word_byte bytes) 0) q

word_found : (b : ℕ) (bytes rest : Bytes) → is_ascii_alphanumeric b ≡ true → list_all is_word_byte bytes ≡ true → Calm rest
    → first_item (after_blanks (b ∷ (bytes ++ rest))) ≡ Some (word (b ∷ bytes), rest)
word_found b bytes rest h k q =
    let e = calm_ends rest q in
    ap first_item (not_blank b (bytes ++ rest) (first_no_blank b h)) ∙ word_first b (bytes ++ rest) h
    ∙ (λ i. Some (word (b ∷ run_front is_word_byte bytes rest k e i), run_back is_word_byte bytes rest k e i))

pub word_piece : (w : Bytes) → is_spelt w ≡ true → Piece Calm (word w ∷ []) w
word_piece [] h = absurd (true≢false (sym h))
word_piece (b ∷ bytes) h =
    let p = and_parts (is_ascii_alphanumeric b) (list_all is_word_byte bytes) h in
    let all : list_all is_word_byte (b ∷ bytes) ≡ true = and_from (is_word_byte b) (list_all is_word_byte bytes) (first_word b p.0) p.1 in
    record {
      utf8 = IsUtf8-from_ascii (b ∷ bytes) (all_ascii is_word_byte word_ascii (b ∷ bytes) all);
      lexes = λ more rest q whole. (rest, word_found b bytes rest p.0 p.1 q, whole);
    }

-- marks
pub mark_piece : (b : ℕ) → is_ascii_alphanumeric b ≡ false → is_mark b ≡ true → is_blank b ≡ false → is_ascii b ≡ true → Piece Any (mark (b ∷ []) ∷ []) (b ∷ [])
mark_piece b h m n low = record {
  utf8 = ascii_text (b ∷ []) (and_from (is_ascii b) true low refl);
  lexes = λ more rest q whole. (rest, ap first_item (not_blank b rest n) ∙ mark_first b rest h m, whole);
}

pub arrow_piece : Piece Any (arrow ∷ []) (codes " -> ")
arrow_piece = record {
  utf8 = ascii_text (codes " -> ") refl;
  lexes = λ more rest q whole. (
    32 ∷ rest,
    ap first_item (blank_skips 32 (45 ∷ 62 ∷ 32 ∷ rest) refl ∙ not_blank 45 (62 ∷ 32 ∷ rest) refl) ∙ arrow_first (32 ∷ rest),
    blank_whole more 32 rest refl whole,
  );
}

-- notes
abbrev LineEnds : Bytes → Type 0
LineEnds rest = prefix_len is_note_byte rest ≡ 0

hash_found : (text rest : Bytes) → list_all is_note_byte text ≡ true → LineEnds rest → first_item (after_blanks (35 ∷ (text ++ rest))) ≡ Some (note text, rest)
hash_found text rest h e =
    ap first_item (not_blank 35 (text ++ rest) refl) ∙ note_first (text ++ rest)
    ∙ (λ i. Some (note (run_front is_note_byte text rest h e i), run_back is_note_byte text rest h e i))

hash_piece : (text : Bytes) → IsUtf8 text → list_all is_note_byte text ≡ true → Piece LineEnds (note text ∷ []) (35 ∷ text)
hash_piece text u h = record {
  utf8 = IsUtf8-append (35 ∷ []) text (ascii_text (35 ∷ []) refl) u;
  lexes = λ more rest q whole. (rest, hash_found text rest h q, whole);
}

pub note_piece : (n : ℕ) (text : Bytes) → IsUtf8 text → list_all is_note_byte text ≡ true → Piece Any (note text ∷ []) (replicate n 32 ++ 35 ∷ text ++ 10 ∷ [])
note_piece n text u h =
    before_blanks LineEnds (note text ∷ []) (replicate n 32 ++ 35 ∷ text) (10 ∷ [])
    (behind_spaces LineEnds (note text ∷ []) n (35 ∷ text) (hash_piece text u h)) refl (λ rest. refl)
