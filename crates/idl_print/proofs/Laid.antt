-- the items of entries and brackets, laid out on one line and opened
use Rattle.std.proofs.Common.{◌≡◌, ℕ, ◌+◌, Bool, true, false, ◌&&◌, ◌||◌, not, cond, eqb, nat_le, List, [], ◌∷◌, ◌++◌, map, length, codes, refl, sym, ap, subst, ◌∙◌, append_assoc, arith}
use Rattle.std.specs.List.{list_all, list_any, flat_map}
use Rattle.std.specs.Str.{is_utf8}
use Rattle.std.proofs.lemmas.List.{append-nil}
use Rattle.std.proofs.lemmas.Bool.{and_parts, or_parts, ne_eqb, not-true, true≢false}
use Rattle.std.proofs.lemmas.Str.{IsUtf8-from_is_utf8}
use Rattle.idl_token.specs.Lex.{Bytes, Lexemes, is_note_byte}
use Rattle.idl_tree.specs.Form.{is_note, are_notes}
use Rattle.idl_rules.specs.Items.{note, comma, left_bracket, right_bracket, notes_items, joined, bracketed}
use Rattle.idl_rules.specs.Canon.{Layout, Entry, line_end, spaces, note_line, note_lines, plain, behind, fits, flat_entries, entry_line, entry_lines, is_noted, opened_body, bracket}
use Rattle.idl_rules.proofs.Runs.{by_bool}
use Rattle.idl_print.proofs.Lexing.{Piece, Any, Calm, both, same_items, calm, nothing, before_blanks, behind_spaces, mark_piece, note_piece}

-- notes
note_is_piece : (n : ℕ) (text : Bytes) → is_note text ≡ true → Piece Any (note text ∷ []) (note_line n text)
note_is_piece n text h =
    let p = and_parts (is_utf8 text && list_all is_note_byte text) _ h in
    let q = and_parts (is_utf8 text) (list_all is_note_byte text) p.0 in
    note_piece n text (IsUtf8-from_is_utf8 text q.0) q.1

pub notes_piece : (n : ℕ) (notes : List Bytes) → are_notes notes ≡ true → Piece Any (notes_items notes) (note_lines n notes)
notes_piece n [] h = nothing Any
notes_piece n (text ∷ notes) h =
    let p = and_parts (is_note text) (are_notes notes) h in
    both Any Any (note text ∷ []) (notes_items notes) (note_line n text) (note_lines n notes) (note_is_piece n text p.0) (notes_piece n notes p.1) (λ rest q. tt)

pub no_notes : (notes : List Bytes) → not (eqb (length notes) 0) ≡ false → notes ≡ []
no_notes [] h = refl
no_notes (text ∷ notes) h = absurd (true≢false (sym (ap not (ne_eqb (length (text ∷ notes)) 0 (λ z. omega arith))) ∙ h))

-- the items of a layout: on one line where no note stands inside it, and opened
pub record Laid (items : Lexemes) (layout : Layout) : Type 0 where
  pub flat : layout.noted ≡ false → Piece Calm items layout.flat
  pub opened : (indent : ℕ) → Piece Calm items (layout.opened indent)

pub plain_laid : (items : Lexemes) (text : Bytes) → Piece Calm items text → Laid items (plain text)
plain_laid items text piece = record { flat = λ e. piece; opened = λ indent. piece }

pub behind_laid : (xs ys : Lexemes) (text : Bytes) (layout : Layout) → Piece Any xs text → Laid ys layout → Laid (xs ++ ys) (behind text layout)
behind_laid xs ys text layout piece laid = record {
  flat = λ e. both Any Calm xs ys text layout.flat piece (laid.flat e) (λ rest q. tt);
  opened = λ indent. both Any Calm xs ys text (layout.opened indent) piece (laid.opened indent) (λ rest q. tt);
}

-- whichever of the two fits
pub chosen : (items : Lexemes) (layout : Layout) (indent : ℕ) (line : Bytes) → Laid items layout
    → Piece Calm items (cond (fits layout.noted line) layout.flat (layout.opened indent))
chosen items layout indent line laid =
    by_bool (λ (b : Bool). fits layout.noted line ≡ b → Piece Calm items (cond b layout.flat (layout.opened indent))) (fits layout.noted line)
    (λ e again. laid.flat (not-true layout.noted (and_parts (not layout.noted) (nat_le (length line) 80) e).0))
    (λ e again. laid.opened indent) refl

-- an entry with its notes
pub record EntryLaid (items : Lexemes) (entry : Entry) : Type 0 where
  pub inner : Lexemes
  pub split : items ≡ notes_items entry.notes ++ inner
  pub good : are_notes entry.notes ≡ true
  pub text : Laid inner entry.text

line_piece : (xs cs : Lexemes) (indent : ℕ) (layout : Layout) (ending : Bytes) → Laid xs layout → Piece Calm cs ending
    → ((rest : Bytes) → Calm rest → Calm (ending ++ rest)) → Piece Any (xs ++ cs) (entry_line indent layout ending)
line_piece xs cs indent layout ending laid piece ends =
    let line = spaces indent ++ layout.flat ++ ending in
    let text = cond (fits layout.noted line) layout.flat (layout.opened indent) in
    before_blanks Calm (xs ++ cs) (spaces indent ++ text ++ ending) line_end
    (both Calm Calm xs cs (spaces indent ++ text) ending (behind_spaces Calm xs indent text (chosen xs layout indent line laid)) piece ends)
    refl (λ rest. refl)

entry_piece : (xs cs : Lexemes) (indent : ℕ) (entry : Entry) (ending : Bytes) → EntryLaid xs entry → Piece Calm cs ending
    → ((rest : Bytes) → Calm rest → Calm (ending ++ rest)) → Piece Any (xs ++ cs) (note_lines indent entry.notes ++ entry_line indent entry.text ending)
entry_piece xs cs indent entry ending laid piece ends =
    let notes = notes_items entry.notes in
    same_items Any (notes ++ (laid.inner ++ cs)) (xs ++ cs) (note_lines indent entry.notes ++ entry_line indent entry.text ending)
    (sym (append_assoc notes laid.inner cs) ∙ ap (λ (is : Lexemes). is ++ cs) (sym laid.split))
    (both Any Any notes (laid.inner ++ cs) (note_lines indent entry.notes) (entry_line indent entry.text ending)
    (notes_piece indent entry.notes laid.good) (line_piece laid.inner cs indent entry.text ending laid.text piece ends) (λ rest q. tt))

comma_piece : Piece Any (comma ∷ []) (codes ",")
comma_piece = mark_piece 44 refl refl refl refl

gap_piece : Piece Any (comma ∷ []) (codes ", ")
gap_piece = before_blanks Any (comma ∷ []) (codes ",") (codes " ") comma_piece refl (λ rest. tt)

flat_entry : (items : Lexemes) (entry : Entry) → EntryLaid items entry → is_noted entry ≡ false → Piece Calm items entry.text.flat
flat_entry items entry laid h =
    let p = or_parts (not (eqb (length entry.notes) 0)) entry.text.noted h in
    same_items Calm laid.inner items entry.text.flat
    (ap (λ (notes : List Bytes). notes_items notes ++ laid.inner) (sym (no_notes entry.notes p.0)) ∙ sym laid.split) (laid.text.flat p.1)

module _ {X : Type 0} (items_of : X → Lexemes) (entry_of : X → Entry) where
  abbrev pub AllLaid : List X → Type 0
  AllLaid [] = Unit {0}
  AllLaid (x ∷ xs) = EntryLaid (items_of x) (entry_of x) × AllLaid xs

  -- entries opened, the last one without a comma
  lines_behind : (indent : ℕ) (x : X) (xs : List X) → EntryLaid (items_of x) (entry_of x) → AllLaid xs
      → Piece Any (joined (map items_of (x ∷ xs))) (entry_lines indent (map entry_of (x ∷ xs)))
  lines_behind indent x [] laid all =
      let text = note_lines indent (entry_of x).notes ++ entry_line indent (entry_of x).text [] in
      same_items Any ((items_of x ++ []) ++ []) (items_of x ++ []) (text ++ []) (append-nil (items_of x ++ []))
      (both Any Any (items_of x ++ []) [] text [] (entry_piece (items_of x) [] indent (entry_of x) [] laid (nothing Calm) (λ rest q. q)) (nothing Any) (λ rest q. tt))
  lines_behind indent x (y ∷ xs) laid all =
      let text = note_lines indent (entry_of x).notes ++ entry_line indent (entry_of x).text (codes ",") in
      let others = entry_lines indent (map entry_of (y ∷ xs)) in
      let more = joined (map items_of (y ∷ xs)) in
      same_items Any ((items_of x ++ comma ∷ []) ++ more) (items_of x ++ (comma ∷ more)) (text ++ others) (append_assoc (items_of x) (comma ∷ []) more)
      (both Any Any (items_of x ++ comma ∷ []) more text others
      (entry_piece (items_of x) (comma ∷ []) indent (entry_of x) (codes ",") laid (calm (comma ∷ []) (codes ",") comma_piece) (λ rest q. refl))
      (lines_behind indent y xs all.0 all.1) (λ rest q. tt))

  pub lines_piece : (indent : ℕ) (xs : List X) → AllLaid xs → Piece Any (joined (map items_of xs)) (entry_lines indent (map entry_of xs))
  lines_piece indent [] all = nothing Any
  lines_piece indent (x ∷ xs) all = lines_behind indent x xs all.0 all.1

  -- entries on one line

  tail_calm : (xs : List X) (rest : Bytes) → Calm rest → Calm (flat_map (λ (next : Entry). codes ", " ++ next.text.flat) (map entry_of xs) ++ rest)
  tail_calm [] rest q = q
  tail_calm (x ∷ xs) rest q = refl

  flat_behind : (xs : List X) → AllLaid xs → list_any is_noted (map entry_of xs) ≡ false
      → Piece Calm (flat_map (λ next. comma ∷ next) (map items_of xs)) (flat_map (λ (next : Entry). codes ", " ++ next.text.flat) (map entry_of xs))
  flat_behind [] all h = nothing Calm
  flat_behind (x ∷ xs) all h =
      let p = or_parts (is_noted (entry_of x)) (list_any is_noted (map entry_of xs)) h in
      both Calm Calm (comma ∷ items_of x) (flat_map (λ (next : Lexemes). comma ∷ next) (map items_of xs)) (codes ", " ++ (entry_of x).text.flat)
      (flat_map (λ (next : Entry). codes ", " ++ next.text.flat) (map entry_of xs))
      (both Any Calm (comma ∷ []) (items_of x) (codes ", ") (entry_of x).text.flat gap_piece (flat_entry (items_of x) (entry_of x) all.0 p.0) (λ rest q. tt))
      (flat_behind xs all.1 p.1) (tail_calm xs)

  flat_piece : (xs : List X) → AllLaid xs → list_any is_noted (map entry_of xs) ≡ false → Piece Calm (joined (map items_of xs)) (flat_entries (map entry_of xs))
  flat_piece [] all h = nothing Calm
  flat_piece (x ∷ xs) all h =
      let p = or_parts (is_noted (entry_of x)) (list_any is_noted (map entry_of xs)) h in
      both Calm Calm (items_of x) (flat_map (λ (next : Lexemes). comma ∷ next) (map items_of xs)) (entry_of x).text.flat
      (flat_map (λ (next : Entry). codes ", " ++ next.text.flat) (map entry_of xs))
      (flat_entry (items_of x) (entry_of x) all.0 p.0) (flat_behind xs all.1 p.1) (tail_calm xs)

left_piece : Piece Any (left_bracket ∷ []) (codes "(")
left_piece = mark_piece 40 refl refl refl refl

right_piece : Piece Any (right_bracket ∷ []) (codes ")")
right_piece = mark_piece 41 refl refl refl refl

-- a body, which begins with its bracket
pub record BodyLaid (items : Lexemes) (layout : Layout) : Type 0 where
  pub laid : Laid items layout
  pub flat_calm : (rest : Bytes) → Calm (layout.flat ++ rest)
  pub opened_calm : (indent : ℕ) (rest : Bytes) → Calm (layout.opened indent ++ rest)

module _ {X : Type 0} (items_of : X → Lexemes) (entry_of : X → Entry) where
  opened_lines : (xs : List X) (ending : List Bytes) (indent : ℕ) → AllLaid items_of entry_of xs → are_notes ending ≡ true
      → Piece Any (bracketed (map items_of xs) ending)
      (codes "(" ++ line_end ++ entry_lines (indent + 2) (map entry_of xs) ++ note_lines (indent + 2) ending ++ spaces indent ++ codes ")")
  opened_lines xs ending indent all good =
      let items = joined (map items_of xs) in
      let notes = notes_items ending in
      let begin = codes "(" ++ line_end in
      let entries = entry_lines (indent + 2) (map entry_of xs) in
      let tail = note_lines (indent + 2) ending in
      let one = before_blanks Any (left_bracket ∷ []) (codes "(") line_end left_piece refl (λ rest. tt) in
      let two = both Any Any (left_bracket ∷ []) items begin entries one (lines_piece items_of entry_of (indent + 2) xs all) (λ rest q. tt) in
      let three = both Any Any (left_bracket ∷ items) notes (begin ++ entries) tail two (notes_piece (indent + 2) ending good) (λ rest q. tt) in
      let last = behind_spaces Any (right_bracket ∷ []) indent (codes ")") right_piece in
      let whole = both Any Any (left_bracket ∷ items ++ notes) (right_bracket ∷ []) (begin ++ entries ++ tail) (spaces indent ++ codes ")") three last (λ rest q. tt) in
      subst (λ (t : Bytes). Piece Any (bracketed (map items_of xs) ending) t) (sym (append_assoc (begin ++ entries ++ tail) (spaces indent) (codes ")"))) whole

  opened_piece : (xs : List X) (ending : List Bytes) (indent : ℕ) → AllLaid items_of entry_of xs → are_notes ending ≡ true
      → Piece Any (bracketed (map items_of xs) ending) (opened_body (map entry_of xs) ending indent)
  opened_piece [] [] indent all good =
      both Any Any (left_bracket ∷ []) (right_bracket ∷ []) (codes "(") (codes ")") left_piece right_piece (λ rest q. tt)
  opened_piece [] (text ∷ notes) indent all good = opened_lines [] (text ∷ notes) indent all good
  opened_piece (x ∷ xs) ending indent all good = opened_lines (x ∷ xs) ending indent all good

  opened_begins : (xs : List X) (ending : List Bytes) (indent : ℕ) (rest : Bytes) → Calm (opened_body (map entry_of xs) ending indent ++ rest)
  opened_begins [] [] indent rest = refl
  opened_begins [] (text ∷ notes) indent rest = refl
  opened_begins (x ∷ xs) ending indent rest = refl

  flat_bracket : (xs : List X) (ending : List Bytes) → AllLaid items_of entry_of xs → (list_any is_noted (map entry_of xs) || not (eqb (length ending) 0)) ≡ false
      → Piece Any (bracketed (map items_of xs) ending) (codes "(" ++ flat_entries (map entry_of xs) ++ codes ")")
  flat_bracket xs ending all h =
      let p = or_parts (list_any is_noted (map entry_of xs)) (not (eqb (length ending) 0)) h in
      let items = joined (map items_of xs) in
      let flat = flat_entries (map entry_of xs) in
      let none : left_bracket ∷ items ≡ left_bracket ∷ items ++ notes_items ending =
      sym (append-nil (left_bracket ∷ items)) ∙ ap (λ (notes : List Bytes). (left_bracket ∷ items) ++ notes_items notes) (sym (no_notes ending p.1)) in
      same_items Any ((left_bracket ∷ items) ++ right_bracket ∷ []) (bracketed (map items_of xs) ending) (codes "(" ++ flat ++ codes ")")
      (ap (λ (is : Lexemes). is ++ right_bracket ∷ []) none)
      (both Calm Any (left_bracket ∷ items) (right_bracket ∷ []) (codes "(" ++ flat) (codes ")")
      (both Any Calm (left_bracket ∷ []) items (codes "(") flat left_piece (flat_piece items_of entry_of xs all p.0) (λ rest q. tt)) right_piece (λ rest q. refl))

  pub bracket_laid : (xs : List X) (ending : List Bytes) → AllLaid items_of entry_of xs → are_notes ending ≡ true
      → BodyLaid (bracketed (map items_of xs) ending) (bracket (map entry_of xs) ending)
  bracket_laid xs ending all good = record {
    laid = record {
      flat = λ e. calm (bracketed (map items_of xs) ending) (codes "(" ++ flat_entries (map entry_of xs) ++ codes ")") (flat_bracket xs ending all e);
      opened = λ indent. calm (bracketed (map items_of xs) ending) (opened_body (map entry_of xs) ending indent) (opened_piece xs ending indent all good);
    };
    flat_calm = λ rest. refl;
    opened_calm = opened_begins xs ending;
  }
