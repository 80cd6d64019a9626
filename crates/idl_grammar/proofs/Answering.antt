-- what the reading of a text's items tells of the text
use Rattle.std.proofs.Common.{◌≡◌, ℕ, ◌<◌, ◌≤◌, true, List, [], ◌∷◌, ◌++◌, map, length, Option, None, Result, Ok, Err, Some, refl, sym, ap, subst, ◌∙◌, arith, inl, inr}
use Rattle.std.proofs.lemmas.Bool.{cases_lt}
use Rattle.std.specs.Str.{IsUtf8}
use Rattle.std.specs.Str.Lossy.{utf8_valid_len}
use Rattle.idl_token.specs.Lex.{Bytes, Lexemes, Lex, LexAt, BadByteAt, lexeme, placed}
use Rattle.idl_token.specs.declared.tokens.Item.{Item}
use Rattle.idl_token.specs.declared.tokens.TokenFault.{TokenFault}
use Rattle.idl_tree.specs.declared.trees.Interface.{Interface}
use Rattle.idl_tree.specs.Form.{Deep}
use Rattle.idl_tree.specs.Faults.{first_fault}
use Rattle.idl_rules.specs.Spells.{Spells, Accepts}
use Rattle.idl_rules.specs.Reading.{Reading, Read, Strayed, TooFar, run, whole}
use Rattle.idl_rules.specs.declared.states.State.TheVariants.{Start}
use Rattle.idl_rules.proofs.Uniqueness.{spelled_read, spelled_reading, read_tree, one_tree}
use Rattle.idl_token.specs.declared.tokens.TokenFault.TheVariants as token
use Rattle.idl_tree.specs.declared.faults.NameFault.{NameFault}
use Rattle.idl_tree.specs.declared.faults.NameFault.TheVariants as name
use Rattle.idl_grammar.specs.declared.faults.IdlFault.{IdlFault}
use Rattle.idl_grammar.specs.declared.faults.IdlFault.TheVariants as fault
use Rattle.std.proofs.lemmas.List.Folds.{list_all-append}
use Rattle.std.proofs.lemmas.Bool.{and_parts}
use Rattle.idl_rules.proofs.Fronts.{go_on, run_append}
use Rattle.idl_rules.proofs.Stops.{stray_stops, taken_goes, deep_stop, front_depth}
use Rattle.idl_rules.proofs.Uniqueness.{lex_good}
use Rattle.idl_rules.specs.Spells.{greatest_depth, depth_at_end}
use Rattle.idl_fronts.proofs.Completion.{front_goes, goes_front}
use Rattle.idl_rules.specs.Reading.{note_good, notes_good}
use Rattle.idl_grammar.proofs.Stopping.{bare_placed, cut_whole, stop_stands}
use Rattle.idl_grammar.specs.Follows.{StopsAt, EndsIn, Reads, TreeOf, Checks, of_token}
use Rattle.idl_grammar.specs.Refuses.{Answers, Refuses, Gives, Misnames, BeginsDefinition}

-- a reading that is neither of a tree nor too deep is that of no tree
never : (items : Lexemes) (text : Bytes) → Lex items text → (run 64 Start [] items ≡ TooFar → ⊥) → ((tree : Interface) → run 64 Start [] items ≡ whole tree → ⊥)
    → (tree : Interface) → Spells tree text → ⊥
never items text lex near other tree spells =
    elim (spelled_reading 64 items text tree lex spells) [ inl far ↦ near far | inr same ↦ other tree same ]

pub too_deep : (items : Lexemes) (text : Bytes) → Lex items text → run 64 Start [] items ≡ TooFar → (tree : Interface) → Spells tree text → 64 < Deep tree
too_deep items text lex e tree spells =
    elim (cases_lt 64 (Deep tree)) [
      | inl deep ↦ deep
      | inr within ↦ (let no : ◌≡◌ {A = Reading} TooFar (whole tree) = sym e ∙ spelled_read 64 items text tree lex spells within in absurd (cc))
    ]

module _ (items : List Item) (text : Bytes) (lex : Lex (map lexeme items) text) (reading : Reading) (at : ℕ) (stop : StopsAt (run 64 Start []) reading items at) where
  cut_run : run 64 Start [] (map lexeme items) ≡ go_on 64 reading (map lexeme stop.rest)
  cut_run = ap (λ (x : Lexemes). run 64 Start [] x) (cut_whole items (run 64 Start []) reading at stop)
      ∙ run_append 64 Start [] (map lexeme stop.front ++ lexeme stop.item ∷ []) (map lexeme stop.rest)
      ∙ ap (λ (r : Reading). go_on 64 r (map lexeme stop.rest)) stop.stopped

  both_good : notes_good (map lexeme stop.front ++ lexeme stop.item ∷ []) ≡ true
  both_good = (and_parts (notes_good (map lexeme stop.front ++ lexeme stop.item ∷ [])) (notes_good (map lexeme stop.rest))
      (sym (list_all-append note_good (map lexeme stop.front ++ lexeme stop.item ∷ []) (map lexeme stop.rest)) ∙ ap notes_good (sym (cut_whole items (run 64 Start []) reading at stop)) ∙ lex_good (map lexeme items) text lex)).0

  front_good : notes_good (map lexeme stop.front) ≡ true
  front_good = (and_parts (notes_good (map lexeme stop.front)) (notes_good (lexeme stop.item ∷ []))
      (sym (list_all-append note_good (map lexeme stop.front) (lexeme stop.item ∷ [])) ∙ both_good)).0

stray_at : (items : List Item) (text : Bytes) → Lex (map lexeme items) text → LexAt (length text) (map placed items) text → (at : ℕ) → StopsAt (run 64 Start []) Strayed items at → Refuses (fault.Syntax at) text
stray_at items text lex places at stop =
    let run_is : run 64 Start [] (map lexeme items) ≡ Strayed = cut_run items text lex Strayed at stop in
    let both = both_good items text lex Strayed at stop in
    let good = front_good items text lex Strayed at stop in
    let same = bare_placed stop.front in (
      (map lexeme items, lex),
      never (map lexeme items) text lex
          (λ far. let no : ◌≡◌ {A = Reading} Strayed TooFar = sym run_is ∙ far in absurd (cc))
          (λ tree is. let no : ◌≡◌ {A = Reading} Strayed (whole tree) = sym run_is ∙ is in absurd (cc)),
      inl (record {
        front = map placed stop.front;
        item = placed stop.item;
        rest = map placed stop.rest;
        stands = stop_stands items (run 64 Start []) Strayed at stop text places;
        goes = subst BeginsDefinition (sym same)
            (goes_front (map lexeme stop.front) (taken_goes 64 (omega arith) (map lexeme stop.front) stop.taken.0 stop.taken.1 good stop.taken.2));
        stops = λ begins. stray_stops 64 (map lexeme stop.front ++ lexeme stop.item ∷ []) both stop.stopped
            (front_goes (map lexeme stop.front ++ lexeme stop.item ∷ []) both (subst (λ (x : Lexemes). BeginsDefinition (x ++ lexeme stop.item ∷ [])) same begins));
        within = subst (λ (x : Lexemes). greatest_depth 0 x ≤ 64) (sym same) (front_depth 64 (map lexeme stop.front) stop.taken.0 stop.taken.1 good stop.taken.2);
      }),
    )

deep_at : (items : List Item) (text : Bytes) → Lex (map lexeme items) text → LexAt (length text) (map placed items) text → (at : ℕ) → StopsAt (run 64 Start []) TooFar items at → Refuses (fault.TooDeep at) text
deep_at items text lex places at stop =
    let both = both_good items text lex TooFar at stop in
    let good = front_good items text lex TooFar at stop in
    let same = bare_placed stop.front in
    let deep = deep_stop 64 (map lexeme stop.front) (lexeme stop.item) stop.taken.0 stop.taken.1 both good stop.taken.2 stop.stopped in (
      (map lexeme items, lex),
      too_deep (map lexeme items) text lex (cut_run items text lex TooFar at stop),
      record {
        front = map placed stop.front;
        item = placed stop.item;
        rest = map placed stop.rest;
        stands = stop_stands items (run 64 Start []) TooFar at stop text places;
        bracket = deep.bracket;
        goes = subst (λ (x : Lexemes). BeginsDefinition (x ++ lexeme stop.item ∷ [])) (sym same)
            (goes_front (map lexeme stop.front ++ lexeme stop.item ∷ []) deep.goes);
        within = subst (λ (x : Lexemes). greatest_depth 0 x ≤ 64) (sym same) (front_depth 64 (map lexeme stop.front) stop.taken.0 stop.taken.1 good stop.taken.2);
        beyond = subst (λ (x : Lexemes). depth_at_end 0 x ≡ 64) (sym same) deep.depth;
      },
    )

missing_at : (items : Lexemes) (text : Bytes) → Lex items text → (at : ℕ) → at ≡ length text → EndsIn items → Refuses (fault.Syntax at) text
missing_at items text lex at place ends =
    let good = lex_good items text lex in
    let none = never items text lex
    (λ far. let no : ◌≡◌ {A = Reading} (Read ends.taken.0 ends.taken.1) TooFar = sym ends.taken.2 ∙ far in absurd (cc)) ends.missing in (
      (items, lex),
      none,
      inr (record {
        items = items;
        lex = lex;
        place = place;
        goes = goes_front items (taken_goes 64 (omega arith) items ends.taken.0 ends.taken.1 good ends.taken.2);
        within = front_depth 64 items ends.taken.0 ends.taken.1 good ends.taken.2;
      }),
    )

pub tree_of : (items : List Item) (text : Bytes) → Lex (map lexeme items) text → LexAt (length text) (map placed items) text
    → (result : Result Interface IdlFault) → Reads result items (length text) → TreeOf result text
tree_of items text lex places (Ok tree) e = let is = read_tree 64 (map lexeme items) text tree lex e in ((is.form, (map lexeme items, lex, is.settled)), is.within)
tree_of items text lex places (Err (fault.Token token)) e = absurd e
tree_of items text lex places (Err (fault.Syntax at)) (inl stop) = stray_at items text lex places at stop
tree_of items text lex places (Err (fault.Syntax at)) (inr ends) = missing_at (map lexeme items) text lex at ends.0 ends.1
tree_of items text lex places (Err (fault.TooDeep at)) e = deep_at items text lex places at e
tree_of items text lex places (Err (fault.Name name)) e = absurd e
tree_of items text lex places (Err fault.Memory) e = tt

pub named : (text : Bytes) (tree : Interface) (result : Result Interface IdlFault) → Spells tree text → Deep tree ≤ 64 → Checks result tree → Answers result text
named text tree (Ok checked) spells within (same, good) = subst (λ (t : Interface). Accepts text t) (sym same) (spells, within, good)
named text tree (Err (fault.Token token)) spells within h = absurd h
named text tree (Err (fault.Syntax at)) spells within h = absurd h
named text tree (Err (fault.TooDeep at)) spells within h = absurd h
named text tree (Err (fault.Name name.Memory)) spells within h = absurd h
named text tree (Err (fault.Name (name.TwiceType w))) spells within h = (tree, spells, within, h)
named text tree (Err (fault.Name (name.TwiceMethod w))) spells within h = (tree, spells, within, h)
named text tree (Err (fault.Name (name.TwiceError w))) spells within h = (tree, spells, within, h)
named text tree (Err (fault.Name (name.TwiceField w))) spells within h = (tree, spells, within, h)
named text tree (Err (fault.Name (name.UnknownType w))) spells within h = (tree, spells, within, h)
named text tree (Err fault.Memory) spells within h = tt

-- what an accepted text gives
misnamed : (text : Bytes) (tree : Interface) (found : NameFault) → Misnames found text → Accepts text tree → ⊥
misnamed text tree found (other, spells, within, first) accepts =
    let same = one_tree text tree other accepts.0 spells in
    let no : ◌≡◌ {A = Option NameFault} None (Some found) = sym accepts.2 ∙ ap first_fault same ∙ first in absurd (cc)

pub complete : (text : Bytes) (result : Result Interface IdlFault) → Answers result text → (tree : Interface) → Accepts text tree → Gives result tree
complete text (Ok given) h tree accepts = one_tree text given tree h.0 accepts.0
complete text (Err (fault.Token (token.NotUtf8 at))) h tree accepts = h.0 accepts.0.1.1.0
complete text (Err (fault.Token (token.BadByte at))) h tree accepts = h.2 accepts.0.1.0 accepts.0.1.1
complete text (Err (fault.Token token.Memory)) h tree accepts = h
complete text (Err (fault.Syntax at)) h tree accepts = h.1 tree accepts.0
complete text (Err (fault.TooDeep at)) h tree accepts = let deep = h.1 tree accepts.0 in let within = accepts.1 in omega arith
complete text (Err (fault.Name name.Memory)) h tree accepts = h
complete text (Err (fault.Name (name.TwiceType w))) h tree accepts = misnamed text tree (name.TwiceType w) h accepts
complete text (Err (fault.Name (name.TwiceMethod w))) h tree accepts = misnamed text tree (name.TwiceMethod w) h accepts
complete text (Err (fault.Name (name.TwiceError w))) h tree accepts = misnamed text tree (name.TwiceError w) h accepts
complete text (Err (fault.Name (name.TwiceField w))) h tree accepts = misnamed text tree (name.TwiceField w) h accepts
complete text (Err (fault.Name (name.UnknownType w))) h tree accepts = misnamed text tree (name.UnknownType w) h accepts
complete text (Err fault.Memory) h tree accepts = tt

-- why a text has no items
abbrev pub NotCut : TokenFault → TokenFault → Type 0
NotCut found other = ◌≡◌ {A = Result (List Item) TokenFault} (Err found) (Err other)

pub token_cause : (text : Bytes) (found : TokenFault)
    → ((at : ℕ) → NotCut found (token.NotUtf8 at) → (IsUtf8 text → ⊥) × (at ≡ utf8_valid_len text))
    → ((at : ℕ) → NotCut found (token.BadByte at) → IsUtf8 text × BadByteAt at text)
    → ((at : ℕ) → NotCut found (token.BadByte at) → (others : Lexemes) → Lex others text → ⊥)
    → Refuses (of_token found) text
token_cause text (token.NotUtf8 at) not_utf8 bad_byte none = not_utf8 at refl
token_cause text (token.BadByte at) not_utf8 bad_byte none = let bad = bad_byte at refl in (bad.0, bad.1, none at refl)
token_cause text token.Memory not_utf8 bad_byte none = tt
