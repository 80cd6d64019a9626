-- the notes among the items of a text have their form
use Rattle.std.proofs.Common.{◌≡◌, ℕ, zero, suc, ◌+◌, ◌<◌, Bool, true, ◌&&◌, not, cond, eqb, [], ◌∷◌, Option, Some, None, length, take, get_or, IsUtf8, refl, sym, ap, subst, ◌∙◌, arith, add-one}
use Rattle.std.specs.List.{list_all, prefix_len}
use Rattle.std.specs.Str.{is_utf8, IsCharBoundary}
use Rattle.std.specs.Char.{is_ascii_alphanumeric}
use Rattle.std.proofs.lemmas.Str.{IsUtf8-take, IsUtf8-drop, IsCharBoundary-after_ascii, IsCharBoundary-start, is_utf8-from_IsUtf8}
use Rattle.std.proofs.lemmas.List.Sums.{prefix_len_passes, prefix_len-le-length}
use Rattle.std.proofs.lemmas.Bool.{and_from, not_from_false, eqb-true}
use Rattle.std.proofs.lemmas.Bool.Decides.{nat_tests}
use Rattle.idl_token.specs.Lex.{Bytes, Lexeme, Lexemes, Begins, first_item, after_blanks, in_front, behind, is_blank, is_mark, is_word_byte, is_note_byte, arrow}
use Rattle.idl_token.specs.declared.tokens.ItemKind.TheVariants.{Word, Mark, Note}
use Rattle.idl_token.proofs.Utf8Items.{item_cut, Cut}
use Rattle.idl_tree.specs.Form.{is_note}
use Rattle.idl_rules.specs.Settle.{note_text, trimmed, is_gap}
use Rattle.idl_rules.proofs.Words.{by_test}
use Rattle.idl_rules.proofs.Trims.{trimmed_last, trimmed_all, trimmed_utf8, last_of}
use Rattle.idl_rules.specs.Reading.{note_good, notes_good}
use Rattle.idl_rules.proofs.Runs.{by_bool}

front_passes : (p : ℕ → Bool) (bytes : Bytes) → list_all p (in_front p bytes) ≡ true
front_passes p [] = refl
front_passes p (b ∷ bytes) =
    by_bool (λ (t : Bool). p b ≡ t → list_all p (take (cond t (1 + prefix_len p bytes) 0) (b ∷ bytes)) ≡ true) (p b)
    (λ e again. let more : 1 + prefix_len p bytes ≡ suc (prefix_len p bytes) = omega arith in
    ap (λ (n : ℕ). list_all p (take n (b ∷ bytes))) more ∙ and_from (p b) (list_all p (in_front p bytes)) e (front_passes p bytes))
    (λ e again. refl) refl

-- a note that begins a text
abbrev NoteIs : Bytes → Option (Lexeme × Bytes) → Type 0
NoteIs bytes None = Unit {0}
NoteIs bytes (Some ((Note, spelling), rest)) = spelling ≡ 35 ∷ in_front is_note_byte bytes
NoteIs bytes (Some ((kind, spelling), rest)) = Unit {0}

arrow_note : (bytes more : Bytes) → NoteIs bytes (arrow more)
arrow_note bytes [] = tt
arrow_note bytes (b ∷ more) = by_test (NoteIs bytes) (eqb b 62) (Some ((Mark, 45 ∷ 62 ∷ []), more)) None (λ e. tt) (λ e. tt)

first_note : (b : ℕ) (bytes : Bytes) → NoteIs bytes (first_item (b ∷ bytes))
first_note b bytes =
    let P = NoteIs bytes in
    by_test P (is_ascii_alphanumeric b) (Some ((Word, b ∷ in_front is_word_byte bytes), behind is_word_byte bytes)) _ (λ e. tt) (λ e.
    by_test P (is_mark b) (Some ((Mark, b ∷ []), bytes)) _ (λ e. tt) (λ e.
    by_test P (eqb b 35) (Some ((Note, b ∷ in_front is_note_byte bytes), behind is_note_byte bytes)) _
    (λ e. ap (λ (x : ℕ). x ∷ in_front is_note_byte bytes) (eqb-true b 35 e)) (λ e.
    by_test P (eqb b 45) (arrow bytes) None (λ e. arrow_note bytes bytes) (λ e. tt))))

note_is : (bytes : Bytes) (spelling rest : Bytes) → first_item bytes ≡ Some ((Note, spelling), rest) → (front : Bytes) × (spelling ≡ 35 ∷ front) × (list_all is_note_byte front ≡ true)
note_is [] spelling rest e = let none : ◌≡◌ {A = Option (Lexeme × Bytes)} None (Some ((Note, spelling), rest)) = e in absurd (cc)
note_is (b ∷ bytes) spelling rest e =
    (in_front is_note_byte bytes, subst (λ (found : Option (Lexeme × Bytes)). NoteIs bytes found) e (first_note b bytes), front_passes is_note_byte bytes)

note_form : (front : Bytes) → IsUtf8 (35 ∷ front) → list_all is_note_byte front ≡ true → is_note (trimmed front) ≡ true
note_form front u passes =
    let behind_hash : IsCharBoundary (35 ∷ front) 1 = IsCharBoundary-after_ascii (35 ∷ front) 0 u (omega arith) (omega arith) in
    let text : IsUtf8 front = IsUtf8-drop (35 ∷ front) 1 u behind_hash in
    and_from (is_utf8 (trimmed front) && list_all is_note_byte (trimmed front)) (not (is_gap (last_of (trimmed front))))
    (and_from (is_utf8 (trimmed front)) (list_all is_note_byte (trimmed front)) (is_utf8-from_IsUtf8 (trimmed front) (trimmed_utf8 front text)) (trimmed_all is_note_byte front passes))
    (not_from_false (is_gap (last_of (trimmed front))) (trimmed_last front))

item_good : (bytes : Bytes) (item : Lexeme) (rest : Bytes) → first_item bytes ≡ Some (item, rest) → IsUtf8 item.1 → note_good item ≡ true
item_good bytes (Word, w) rest e u = refl
item_good bytes (Mark, w) rest e u = refl
item_good bytes (Note, spelling) rest e u =
    let n = note_is bytes spelling rest e in
    ap (λ (x : Bytes). is_note (note_text x)) n.1 ∙ note_form n.0 (subst (λ (x : Bytes). IsUtf8 x) n.1 u) n.2

blank_ascii : (b : ℕ) → is_blank b ≡ true → b < 128
blank_ascii b h = grind (arith, nat_tests)

blank_boundary : (bytes : Bytes) → IsUtf8 bytes → (n : ℕ) → n ≡ prefix_len is_blank bytes → IsCharBoundary bytes n
blank_boundary bytes u zero is_n = IsCharBoundary-start bytes u
blank_boundary bytes u (suc m) is_n =
    let size = prefix_len-le-length is_blank bytes in
    let last : m < prefix_len is_blank bytes = omega arith in
    let low : get_or bytes m 0 < 128 = blank_ascii (get_or bytes m 0) (prefix_len_passes is_blank bytes m 0 last) in
    let within : m < length bytes = omega arith in
    subst (λ (k : ℕ). IsCharBoundary bytes k) (add-one m) (IsCharBoundary-after_ascii bytes m u within low)

blanks_utf8 : (bytes : Bytes) → IsUtf8 bytes → IsUtf8 (after_blanks bytes)
blanks_utf8 bytes u = IsUtf8-drop bytes (prefix_len is_blank bytes) u (blank_boundary bytes u (prefix_len is_blank bytes) refl)

pub begun_good : (items : Lexemes) (text rest : Bytes) → IsUtf8 text → Begins items text rest → notes_good items ≡ true
begun_good [] text rest u b = refl
begun_good (item ∷ items) text rest u (more, found, b) =
    let v : IsUtf8 (after_blanks text) = blanks_utf8 text u in
    let cut : Cut (after_blanks text) item more = item_cut (after_blanks text) item more found v in
    let front : IsUtf8 item.1 = subst (λ (t : Bytes). IsUtf8 t) (sym cut.front) (IsUtf8-take (after_blanks text) cut.size v cut.boundary) in
    let back : IsUtf8 more = subst (λ (t : Bytes). IsUtf8 t) (sym cut.back) (IsUtf8-drop (after_blanks text) cut.size v cut.boundary) in
    and_from (note_good item) (notes_good items) (item_good (after_blanks text) item more found front) (begun_good items more rest back b)
