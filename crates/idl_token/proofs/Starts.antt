-- which item begins what is left of a text, by its first byte
use Rattle.std.proofs.Common.{◌≡◌, ℕ, suc, ◌+◌, ◌-◌, ◌<◌, true, false, [], ◌∷◌, Some, length, take, drop, get_or, refl, sym, ap, ◌∙◌, arith}
use Rattle.std.specs.List.{prefix_len}
use Rattle.std.specs.Char.{is_ascii_alphanumeric}
use Rattle.std.proofs.lemmas.List.{drop_more, drop-drop}
use Rattle.idl_token.specs.Lex.{Bytes, first_item, is_mark, is_word_byte, is_note_byte, in_front, behind}
use Rattle.idl_token.specs.declared.tokens.ItemKind.{ItemKind}
use Rattle.idl_token.specs.declared.tokens.ItemKind.TheVariants.{Word, Mark, Note}

-- what `first_item` gives for an item of the kind that ends at `end`
abbrev pub Ends : ItemKind → ℕ → ℕ → Bytes → Type 0
Ends kind at end text = first_item (drop at text) ≡ Some ((kind, take (end - at) (drop at text)), drop end text)

-- the first byte and a run of `n` bytes behind it
run : (kind : ItemKind) (at n : ℕ) (text : Bytes) → at < length text
    → first_item (get_or text at 0 ∷ drop (at + 1) text) ≡ Some ((kind, get_or text at 0 ∷ take n (drop (at + 1) text)), drop n (drop (at + 1) text))
    → (end : ℕ) → end ≡ at + 1 + n → Ends kind at end text
run kind at n text within item end is_end =
    let cut : drop at text ≡ get_or text at 0 ∷ drop (at + 1) text = drop_more text at 0 within in
    let size : end - at ≡ suc n = omega arith in
    let size' : end ≡ (at + 1) + n = omega arith in
    let gone : drop n (drop (at + 1) text) ≡ drop end text = drop-drop n (at + 1) text ∙ ap (λ k. drop k text) (sym size') in
    rw (cut, size, ← gone) item

pub word_first : (b : ℕ) (bs : Bytes) → is_ascii_alphanumeric b ≡ true
    → first_item (b ∷ bs) ≡ Some ((Word, b ∷ in_front is_word_byte bs), behind is_word_byte bs)
word_first b bs h = rw h refl

pub mark_first : (b : ℕ) (bs : Bytes) → is_ascii_alphanumeric b ≡ false → is_mark b ≡ true
    → first_item (b ∷ bs) ≡ Some ((Mark, b ∷ []), bs)
mark_first b bs h m = rw (h, m) refl

pub note_first : (bs : Bytes) → first_item (35 ∷ bs) ≡ Some ((Note, 35 ∷ in_front is_note_byte bs), behind is_note_byte bs)
note_first bs = refl

pub arrow_first : (bs : Bytes) → first_item (45 ∷ 62 ∷ bs) ≡ Some ((Mark, 45 ∷ 62 ∷ []), bs)
arrow_first bs = refl

pub ends_word : (at : ℕ) (text : Bytes) → at < length text → is_ascii_alphanumeric (get_or text at 0) ≡ true
    → (end : ℕ) → end ≡ at + 1 + prefix_len is_word_byte (drop (at + 1) text) → Ends Word at end text
ends_word at text within h end is_end =
    run Word at (prefix_len is_word_byte (drop (at + 1) text)) text within (word_first (get_or text at 0) (drop (at + 1) text) h) end is_end

pub ends_mark : (at : ℕ) (text : Bytes) → at < length text → is_ascii_alphanumeric (get_or text at 0) ≡ false
    → is_mark (get_or text at 0) ≡ true → Ends Mark at (at + 1) text
ends_mark at text within h m =
    run Mark at 0 text within (mark_first (get_or text at 0) (drop (at + 1) text) h m) (at + 1) (omega arith)

pub ends_note : (at : ℕ) (text : Bytes) → at < length text → get_or text at 0 ≡ 35
    → (end : ℕ) → end ≡ at + 1 + prefix_len is_note_byte (drop (at + 1) text) → Ends Note at end text
ends_note at text within h end is_end =
    run Note at (prefix_len is_note_byte (drop (at + 1) text)) text within (rw h (note_first (drop (at + 1) text))) end is_end

pub ends_arrow : (at : ℕ) (text : Bytes) → at + 1 < length text → get_or text at 0 ≡ 45 → get_or text (at + 1) 0 ≡ 62
    → Ends Mark at (at + 1 + 1) text
ends_arrow at text within h m =
    let cut : drop (at + 1) text ≡ get_or text (at + 1) 0 ∷ drop (at + 1 + 1) text = drop_more text (at + 1) 0 within in
    run Mark at 1 text (omega arith) (rw (h, cut, m) (arrow_first (drop (at + 1 + 1) text))) (at + 1 + 1) (omega arith)
