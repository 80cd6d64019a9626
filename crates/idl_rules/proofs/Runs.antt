-- what a whole reading tells: sound, the notes settled, and the same on settled items
use Rattle.std.proofs.Common.{◌≡◌, ℕ, Bool, true, false, ◌&&◌, cond, List, [], ◌∷◌, ◌++◌, refl, sym, ap, ◌∙◌, append_assoc}
use Rattle.std.proofs.lemmas.List.{append-nil}
use Rattle.std.proofs.lemmas.List.Folds.{list_all-append}
use Rattle.std.proofs.lemmas.Bool.{and_parts, and_from, cond-true, cond-false}
use Rattle.idl_token.specs.Lex.{Bytes, Lexeme, Lexemes}
use Rattle.idl_token.specs.declared.tokens.ItemKind.TheVariants.{Word, Mark, Note}
use Rattle.idl_tree.specs.Form.{is_note, are_notes}
use Rattle.idl_rules.specs.Items.{notes_items}
use Rattle.idl_rules.specs.Settle.{Here, is_slot, after, settled, note_text}
use Rattle.idl_rules.specs.Reading.{Next, Going, Stray, Beyond, Reading, Read, Strayed, TooFar, then_read, run, here, slot_next, plain_next, notes_good}
use Rattle.idl_rules.specs.declared.states.State.{State}
use Rattle.idl_rules.proofs.Spelled.{spelled, Sound, OnNext}
use Rattle.idl_rules.proofs.Trims.{trimmed_note}
use Rattle.idl_rules.proofs.Steps.{Kept, slot_kept, plain_kept}

abbrev pub OnReading : (State → List Bytes → Type 0) → Reading → Type 0
OnReading P (Read state waiting) = P state waiting
OnReading P Strayed = Unit {0}
OnReading P TooFar = Unit {0}

pub notes_push : (waiting : List Bytes) (text : Bytes) → are_notes waiting ≡ true → is_note text ≡ true → are_notes (waiting ++ text ∷ []) ≡ true
notes_push waiting text h k = list_all-append is_note waiting (text ∷ []) ∙ and_from (are_notes waiting) (is_note text && true) h (and_from (is_note text) true k refl)

-- what is read is sound, and its items with the notes that wait are the items so far, settled
abbrev pub Whole : ℕ → State → List Bytes → Lexemes → State → List Bytes → Type 0
Whole limit state waiting items last left =
    Sound limit last × (are_notes left ≡ true) × (spelled state ++ settled (here state) waiting items ≡ spelled last ++ notes_items left)

pub map_reading : (P Q : State → List Bytes → Type 0) (reading : Reading) → ((last : State) (left : List Bytes) → P last left → Q last left) → OnReading P reading → OnReading Q reading
map_reading P Q (Read last left) f h = f last left h
map_reading P Q Strayed f h = tt
map_reading P Q TooFar f h = tt

pub by_bool : (P : Bool → Type 0) (test : Bool) → (test ≡ true → P true) → (test ≡ false → P false) → P test
by_bool P true fit other = fit refl
by_bool P false fit other = other refl

one_more : (a b c : Lexemes) (item : Lexeme) → (a ++ (b ++ item ∷ [])) ++ c ≡ a ++ (b ++ item ∷ c)
one_more a b c item = simp append_assoc

module _ (limit : ℕ) (items : Lexemes) where
  -- behind one item
  abbrev Behind : State → List Bytes → Lexemes → Lexeme → State → List Bytes → Type 0
  Behind state waiting more item last left = Sound limit last × (are_notes left ≡ true)
      × (spelled state ++ (more ++ item ∷ settled (after (here state) item) waiting items) ≡ spelled last ++ notes_items left)

  next_whole : (state : State) (waiting : List Bytes) (more : Lexemes) (item : Lexeme) (next : Next)
      → ((s : State) → Sound limit s → OnReading (Whole limit s waiting items) (run limit s waiting items))
      → OnNext (Kept limit state item (more ++ item ∷ [])) next
      → OnReading (Behind state waiting more item) (then_read next (λ s. run limit s waiting items))
  next_whole state waiting more item (Going next) ih kept =
      map_reading (Whole limit next waiting items) (Behind state waiting more item) (run limit next waiting items)
      (λ last left h. (
        h.0,
        h.1,
        sym (one_more (spelled state) more (settled (after (here state) item) waiting items) item)
            ∙ ap (λ (front : Lexemes). front ++ settled (after (here state) item) waiting items) (sym kept.0)
            ∙ ap (λ (place : Here). spelled next ++ settled place waiting items) (sym kept.2)
            ∙ h.2,
      ))
      (ih next kept.1)
  next_whole state waiting more item Stray ih kept = tt
  next_whole state waiting more item Beyond ih kept = tt

  item_whole : (state : State) (waiting : List Bytes) (item : Lexeme) → Sound limit state → are_notes waiting ≡ true
      → ((s : State) (w : List Bytes) → Sound limit s → are_notes w ≡ true → OnReading (Whole limit s w items) (run limit s w items))
      → OnReading (λ last left. Sound limit last × (are_notes left ≡ true)
      × (spelled state ++ cond (is_slot (here state) item) (notes_items waiting ++ item ∷ settled (after (here state) item) [] items) (item ∷ settled (after (here state) item) waiting items)
      ≡ spelled last ++ notes_items left))
      (cond (is_slot (here state) item) (then_read (slot_next state waiting item) (λ next. run limit next [] items))
      (then_read (plain_next limit state item) (λ next. run limit next waiting items)))
  item_whole state waiting item sound noted ih =
      by_bool (λ (b : Bool). OnReading (λ last left. Sound limit last × (are_notes left ≡ true)
      × (spelled state ++ cond b (notes_items waiting ++ item ∷ settled (after (here state) item) [] items) (item ∷ settled (after (here state) item) waiting items)
      ≡ spelled last ++ notes_items left))
      (cond b (then_read (slot_next state waiting item) (λ next. run limit next [] items))
      (then_read (plain_next limit state item) (λ next. run limit next waiting items))))
      (is_slot (here state) item)
      (λ slot. next_whole state [] (notes_items waiting) item (slot_next state waiting item) (λ s h. ih s [] h refl) (slot_kept limit state waiting item sound noted slot))
      (λ slot. next_whole state waiting [] item (plain_next limit state item) (λ s h. ih s waiting h noted) (plain_kept limit state item sound))

pub run_whole : (limit : ℕ) (state : State) (waiting : List Bytes) (items : Lexemes) → Sound limit state → are_notes waiting ≡ true → notes_good items ≡ true
    → OnReading (Whole limit state waiting items) (run limit state waiting items)
run_whole limit state waiting [] sound noted good = (sound, noted, refl)
run_whole limit state waiting ((Note, spelling) ∷ items) sound noted good =
    let p = and_parts (is_note (note_text spelling)) (notes_good items) good in
    run_whole limit state (waiting ++ note_text spelling ∷ []) items sound (notes_push waiting (note_text spelling) noted p.0) p.1
run_whole limit state waiting ((Word, w) ∷ items) sound noted good =
    item_whole limit items state waiting (Word, w) sound noted (λ s ws h n. run_whole limit s ws items h n good)
run_whole limit state waiting ((Mark, w) ∷ items) sound noted good =
    item_whole limit items state waiting (Mark, w) sound noted (λ s ws h n. run_whole limit s ws items h n good)

-- notes wait
pub run_notes : (limit : ℕ) (state : State) (waiting notes : List Bytes) (items : Lexemes) → are_notes notes ≡ true
    → run limit state waiting (notes_items notes ++ items) ≡ run limit state (waiting ++ notes) items
run_notes limit state waiting [] items h = ap (λ (w : List Bytes). run limit state w items) (sym (append-nil waiting))
run_notes limit state waiting (text ∷ notes) items h =
    let p = and_parts (is_note text) (are_notes notes) h in
    run_notes limit state (waiting ++ note_text (35 ∷ text) ∷ []) notes items p.1
    ∙ ap (λ (w : List Bytes). run limit state w items)
    (append_assoc waiting (note_text (35 ∷ text) ∷ []) notes ∙ ap (λ (t : Bytes). waiting ++ t ∷ notes) (trimmed_note text p.0))

-- a word or a mark
abbrev pub Takes : ℕ → State → Lexeme → Type 0
Takes limit state item = (waiting : List Bytes) (items : Lexemes) → run limit state waiting (item ∷ items)
    ≡ cond (is_slot (here state) item) (then_read (slot_next state waiting item) (λ next. run limit next [] items))
    (then_read (plain_next limit state item) (λ next. run limit next waiting items))

module _ (limit : ℕ) (items : Lexemes) where
  then_same : (state : State) (waiting : List Bytes) (more : Lexemes) (item : Lexeme) (next : Next)
      → ((s : State) → Sound limit s → run limit s waiting items ≡ run limit s [] (settled (here s) waiting items))
      → OnNext (Kept limit state item more) next
      → then_read next (λ s. run limit s waiting items) ≡ then_read next (λ s. run limit s [] (settled (after (here state) item) waiting items))
  then_same state waiting more item (Going next) ih kept =
      ih next kept.1 ∙ ap (λ (place : Here). run limit next [] (settled place waiting items)) kept.2
  then_same state waiting more item Stray ih kept = refl
  then_same state waiting more item Beyond ih kept = refl

  item_same : (state : State) (waiting : List Bytes) (item : Lexeme) → Sound limit state → are_notes waiting ≡ true → Takes limit state item
      → ((s : State) (w : List Bytes) → Sound limit s → are_notes w ≡ true → run limit s w items ≡ run limit s [] (settled (here s) w items))
      → run limit state waiting (item ∷ items)
      ≡ run limit state [] (cond (is_slot (here state) item) (notes_items waiting ++ item ∷ settled (after (here state) item) [] items) (item ∷ settled (after (here state) item) waiting items))
  item_same state waiting item sound noted takes ih =
      takes waiting items ∙
      by_bool (λ (b : Bool). is_slot (here state) item ≡ b → cond b (then_read (slot_next state waiting item) (λ next. run limit next [] items))
      (then_read (plain_next limit state item) (λ next. run limit next waiting items))
      ≡ run limit state [] (cond b (notes_items waiting ++ item ∷ settled (after (here state) item) [] items) (item ∷ settled (after (here state) item) waiting items)))
      (is_slot (here state) item)
      (λ slot again.
      then_same state [] (notes_items waiting ++ item ∷ []) item (slot_next state waiting item) (λ s h. ih s [] h refl) (slot_kept limit state waiting item sound noted slot)
      ∙ sym (run_notes limit state [] waiting (item ∷ settled (after (here state) item) [] items) noted
      ∙ takes waiting (settled (after (here state) item) [] items)
      ∙ cond-true (is_slot (here state) item) _ _ slot))
      (λ slot again.
      then_same state waiting (item ∷ []) item (plain_next limit state item) (λ s h. ih s waiting h noted) (plain_kept limit state item sound)
      ∙ sym (takes [] (settled (after (here state) item) waiting items) ∙ cond-false (is_slot (here state) item) _ _ slot))
      refl

-- settled items are read as the items
pub run_settled : (limit : ℕ) (state : State) (waiting : List Bytes) (items : Lexemes) → Sound limit state → are_notes waiting ≡ true → notes_good items ≡ true
    → run limit state waiting items ≡ run limit state [] (settled (here state) waiting items)
run_settled limit state waiting [] sound noted good =
    sym (ap (λ (is : Lexemes). run limit state [] is) (sym (append-nil (notes_items waiting))) ∙ run_notes limit state [] waiting [] noted)
run_settled limit state waiting ((Note, spelling) ∷ items) sound noted good =
    let p = and_parts (is_note (note_text spelling)) (notes_good items) good in
    run_settled limit state (waiting ++ note_text spelling ∷ []) items sound (notes_push waiting (note_text spelling) noted p.0) p.1
run_settled limit state waiting ((Word, w) ∷ items) sound noted good =
    item_same limit items state waiting (Word, w) sound noted (λ ws is. refl) (λ s ws h n. run_settled limit s ws items h n good)
run_settled limit state waiting ((Mark, w) ∷ items) sound noted good =
    item_same limit items state waiting (Mark, w) sound noted (λ ws is. refl) (λ s ws h n. run_settled limit s ws items h n good)
