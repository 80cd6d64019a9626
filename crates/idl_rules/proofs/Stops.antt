-- where a reading stops: with an item with which no definition goes on, or with a bracket too deep
use Rattle.std.proofs.Common.{◌≡◌, ℕ, suc, ◌<◌, ◌≤◌, max, Bool, true, false, cond, ltb, List, [], ◌∷◌, ◌++◌, Option, Some, None, length, refl, sym, ap, subst, ◌∙◌, arith, inl, inr}
use Rattle.std.specs.List.{list_all}
use Rattle.std.proofs.lemmas.List.Folds.{list_all-append}
use Rattle.std.proofs.lemmas.Bool.{and_parts, and_from, lt-ltb, ltb-false, true≢false}
use Rattle.idl_token.specs.Lex.{Bytes, Lexeme, Lexemes}
use Rattle.idl_token.specs.declared.tokens.ItemKind.TheVariants.{Word, Mark, Note}
use Rattle.idl_tree.specs.declared.trees.Body.{Body}
use Rattle.idl_tree.specs.Form.{Deep, is_note, are_notes}
use Rattle.idl_rules.specs.Items.{left_bracket}
use Rattle.idl_rules.specs.Settle.{Here, is_slot, after, note_text}
use Rattle.idl_rules.specs.Spells.{GoesOn, is_bare, depth_behind, depth_at_end, greatest_depth}
use Rattle.idl_rules.specs.Reading.{Next, Going, Stray, Beyond, going_if, inside_next, close_next, entry_spot, body_of, type_word, keyed, keyword_of, Reading, Read, Strayed, TooFar, run, whole, then_read, slot_word, slot_close, slot_next, word_next, plain_next, sign_next, mark_next, mark_of, mark_spot, takes_enum, open_inner, opened, here, note_good, notes_good}
use Rattle.idl_rules.specs.declared.states.State.{State}
use Rattle.idl_rules.specs.declared.states.State.TheVariants.{Start, Headed, Between, Keyed, Ready, Middle, Inside}
use Rattle.idl_rules.specs.declared.states.Head.{Head}
use Rattle.idl_rules.specs.declared.states.Begun.{Begun}
use Rattle.idl_rules.specs.declared.states.Level.{Level}
use Rattle.idl_rules.specs.declared.states.Keyword.{Keyword}
use Rattle.idl_rules.specs.declared.states.Spot.{Spot}
use Rattle.idl_rules.specs.declared.states.Spot.TheVariants as spot
use Rattle.idl_rules.specs.declared.states.Mark.{Mark as Sign}
use Rattle.idl_rules.specs.declared.states.Mark.TheVariants.{Open, Close, Comma, Colon, Question, LeftSquare, RightSquare, Arrow}
use Rattle.idl_rules.proofs.Words.{sign_text, sign_spelt}
use Rattle.idl_rules.proofs.Spelled.{Sound, OnNext}
use Rattle.idl_rules.proofs.Steps.{Kept, slot_kept, plain_kept}
use Rattle.idl_rules.proofs.Runs.{by_bool, run_settled, OnReading, Whole, run_whole, notes_push, map_reading}
use Rattle.idl_rules.proofs.Trees.{reads}
use Rattle.idl_rules.proofs.Uniqueness.{run_larger, tree_of}
use Rattle.idl_rules.proofs.Fronts.{go_on, run_append, completes}

bare_good : (items : Lexemes) → list_all is_bare items ≡ true → notes_good items ≡ true
bare_good [] h = refl
bare_good ((Note, spelling) ∷ items) h = absurd (true≢false (sym h))
bare_good ((Word, w) ∷ items) h = bare_good items h
bare_good ((Mark, w) ∷ items) h = bare_good items h

good_append : (front rest : Lexemes) → notes_good front ≡ true → notes_good rest ≡ true → notes_good (front ++ rest) ≡ true
good_append front rest h k = list_all-append note_good front rest ∙ and_from (notes_good front) (notes_good rest) h k

-- no definition goes on with an item that is not taken
pub stray_stops : (limit : ℕ) (items : Lexemes) → notes_good items ≡ true → run limit Start [] items ≡ Strayed → GoesOn items → ⊥
stray_stops limit items good strayed (rest, tree, bare, form, settles) =
    let large = max limit (Deep tree) in
    let all_good = good_append items rest good (bare_good rest bare) in
    let read : run large Start [] (items ++ rest) ≡ whole tree =
    run_settled large Start [] (items ++ rest) tt refl all_good ∙ ap (λ (x : Lexemes). run large Start [] x) settles ∙ reads large tree form (omega arith) in
    elim (run_larger limit large (omega arith) Start [] items) [
      | inl far ↦ (let no : ◌≡◌ {A = Reading} Strayed TooFar = sym strayed ∙ far in absurd (cc))
      | inr same ↦ (let no : ◌≡◌ {A = Reading} Strayed (whole tree) =
          ap (λ (r : Reading). go_on large r rest) (sym strayed ∙ same) ∙ sym (run_append large Start [] items rest) ∙ read in absurd (cc))
    ]

-- items that are taken go on
pub taken_goes : (limit : ℕ) → 0 < limit → (items : Lexemes) (state : State) (waiting : List Bytes) → notes_good items ≡ true
    → run limit Start [] items ≡ Read state waiting → GoesOn items
taken_goes limit some items state waiting good taken =
    let c = completes limit some state waiting in
    let all = items ++ c.rest in
    let read : run limit Start [] all ≡ whole c.tree = run_append limit Start [] items c.rest ∙ ap (λ (r : Reading). go_on limit r c.rest) taken ∙ c.read in
    let is = tree_of limit all c.tree (subst (λ (r : Reading). OnReading (Whole limit Start [] all) r) read
    (run_whole limit Start [] all tt refl (good_append items c.rest good (bare_good c.rest c.bare)))) in
    (c.rest, c.tree, c.bare, is.form, is.settled)

-- the brackets that are open
pub depth_sound : (limit : ℕ) (state : State) → Sound limit state → (here state).depth ≤ limit
depth_sound limit (Inside head member levels at) s = s.within
depth_sound limit Start s = omega arith
depth_sound limit (Headed notes) s = omega arith
depth_sound limit (Between head) s = omega arith
depth_sound limit (Keyed head notes keyword) s = omega arith
depth_sound limit (Ready head member) s = omega arith
depth_sound limit (Middle head notes name input) s = omega arith

abbrev pub DepthIs : ℕ → State → Lexemes → State → Type 0
DepthIs limit state items last =
    Sound limit last × (greatest_depth (here state).depth items ≤ limit) × (depth_at_end (here state).depth items ≡ (here last).depth)

module _ (limit : ℕ) (items : Lexemes) where
  next_depth : (state : State) (waiting : List Bytes) (more : Lexemes) (item : Lexeme) (next : Next) → Sound limit state
      → depth_behind (here state).depth item ≡ (after (here state) item).depth
      → ((s : State) → Sound limit s → OnReading (λ last left. DepthIs limit s items last) (run limit s waiting items))
      → OnNext (Kept limit state item more) next
      → OnReading (λ last left. DepthIs limit state (item ∷ items) last) (then_read next (λ s. run limit s waiting items))
  next_depth state waiting more item (Going next) sound same ih kept =
      map_reading (λ last left. DepthIs limit next items last) (λ last left. DepthIs limit state (item ∷ items) last) (run limit next waiting items)
      (λ last left h.
      let place : (here next).depth ≡ depth_behind (here state).depth item = ap (λ (p : Here). p.depth) kept.2 ∙ sym same in
      let low = depth_sound limit state sound in
      let behind : greatest_depth (depth_behind (here state).depth item) items ≤ limit = subst (λ (d : ℕ). greatest_depth d items ≤ limit) place h.1 in
      (h.0, omega arith, subst (λ (d : ℕ). depth_at_end d items ≡ (here last).depth) place h.2))
      (ih next kept.1)
  next_depth state waiting more item Stray sound same ih kept = tt
  next_depth state waiting more item Beyond sound same ih kept = tt

  item_depth : (state : State) (waiting : List Bytes) (item : Lexeme) → Sound limit state → are_notes waiting ≡ true
      → depth_behind (here state).depth item ≡ (after (here state) item).depth
      → ((s : State) (w : List Bytes) → Sound limit s → are_notes w ≡ true → OnReading (λ last left. DepthIs limit s items last) (run limit s w items))
      → OnReading (λ last left. DepthIs limit state (item ∷ items) last)
      (cond (is_slot (here state) item) (then_read (slot_next state waiting item) (λ next. run limit next [] items)) (then_read (plain_next limit state item) (λ next. run limit next waiting items)))
  item_depth state waiting item sound noted same ih =
      by_bool (λ (b : Bool). is_slot (here state) item ≡ b → OnReading (λ last left. DepthIs limit state (item ∷ items) last)
      (cond b (then_read (slot_next state waiting item) (λ next. run limit next [] items)) (then_read (plain_next limit state item) (λ next. run limit next waiting items))))
      (is_slot (here state) item)
      (λ slot again. next_depth state [] _ item (slot_next state waiting item) sound same (λ s h. ih s [] h refl) (slot_kept limit state waiting item sound noted slot))
      (λ slot again. next_depth state waiting _ item (plain_next limit state item) sound same (λ s h. ih s waiting h noted) (plain_kept limit state item sound))
      refl

pub run_depth : (limit : ℕ) (state : State) (waiting : List Bytes) (items : Lexemes) → Sound limit state → are_notes waiting ≡ true → notes_good items ≡ true
    → OnReading (λ last left. DepthIs limit state items last) (run limit state waiting items)
run_depth limit state waiting [] sound noted good = (sound, depth_sound limit state sound, refl)
run_depth limit state waiting ((Note, spelling) ∷ items) sound noted good =
    let p = and_parts (is_note (note_text spelling)) (notes_good items) good in
    map_reading (λ last left. DepthIs limit state items last) (λ last left. DepthIs limit state ((Note, spelling) ∷ items) last) (run limit state (waiting ++ note_text spelling ∷ []) items)
    (λ last left h. let low = depth_sound limit state sound in (h.0, (let g = h.1 in omega arith), h.2))
    (run_depth limit state (waiting ++ note_text spelling ∷ []) items sound (notes_push waiting (note_text spelling) noted p.0) p.1)
run_depth limit state waiting ((Word, w) ∷ items) sound noted good =
    item_depth limit items state waiting (Word, w) sound noted refl (λ s ws h n. run_depth limit s ws items h n good)
run_depth limit state waiting ((Mark, w) ∷ items) sound noted good =
    item_depth limit items state waiting (Mark, w) sound noted refl (λ s ws h n. run_depth limit s ws items h n good)

-- a bracket that is too deep
abbrev pub TooDeepAt : ℕ → ℕ → Lexeme → (ℕ → Next) → Next → Type 0
TooDeepAt limit depth item taken Beyond = (item ≡ left_bracket) × (limit ≤ depth) × ((other : ℕ) → depth < other → (next : State) × (taken other ≡ Going next))
TooDeepAt limit depth item taken next = Unit {0}

opened_deep : (limit : ℕ) (head : Head) (member : Begun) (levels : List Level)
    → TooDeepAt limit (length levels) left_bracket (λ other. opened other head member levels) (opened limit head member levels)
opened_deep limit head member levels =
    let inside = Inside head member levels spot.First in
    by_bool (λ (b : Bool). ltb (length levels) limit ≡ b → TooDeepAt limit (length levels) left_bracket (λ other. opened other head member levels) (cond b (Going inside) Beyond)) (ltb (length levels) limit)
    (λ e again. tt)
    (λ e again. (refl, ltb-false (length levels) limit e, λ other below. (inside, ap (λ (b : Bool). cond b (Going inside) Beyond) (lt-ltb (length levels) other below)))) refl

if_deep : (limit depth : ℕ) (item : Lexeme) (taken : ℕ → Next) (test : Bool) (state : State) → TooDeepAt limit depth item taken (going_if test state)
if_deep limit depth item taken true state = tt
if_deep limit depth item taken false state = tt

inside_deep : (limit depth : ℕ) (item : Lexeme) (taken : ℕ → Next) (head : Head) (member : Begun) (levels : List Level) (at : Option Spot)
    → TooDeepAt limit depth item taken (inside_next head member levels at)
inside_deep limit depth item taken head member levels None = tt
inside_deep limit depth item taken head member levels (Some at) = tt

inner_deep : (limit : ℕ) (head : Head) (member : Begun) (levels : List Level) (at : Spot)
    → TooDeepAt limit (suc (length levels)) left_bracket (λ other. open_inner other head member levels at) (open_inner limit head member levels at)
inner_deep limit head member levels (spot.Prefixes level) = opened_deep limit head member (level ∷ levels)
inner_deep limit head member levels at = tt

sign_deep : (limit : ℕ) (state : State) (sign : Sign)
    → TooDeepAt limit (here state).depth (Mark, sign_text sign) (λ other. sign_next other state sign) (sign_next limit state sign)
sign_deep limit (Ready head member) Open = opened_deep limit head member []
sign_deep limit (Middle head notes name input) Arrow = tt
sign_deep limit (Inside head member levels at) Open = inner_deep limit head member levels at
sign_deep limit (Inside head member levels at) Close = inside_deep _ _ _ _ head member levels (mark_spot (takes_enum member.kind levels) at Close)
sign_deep limit (Inside head member levels at) Comma = inside_deep _ _ _ _ head member levels (mark_spot (takes_enum member.kind levels) at Comma)
sign_deep limit (Inside head member levels at) Colon = inside_deep _ _ _ _ head member levels (mark_spot (takes_enum member.kind levels) at Colon)
sign_deep limit (Inside head member levels at) Question = inside_deep _ _ _ _ head member levels (mark_spot (takes_enum member.kind levels) at Question)
sign_deep limit (Inside head member levels at) LeftSquare = inside_deep _ _ _ _ head member levels (mark_spot (takes_enum member.kind levels) at LeftSquare)
sign_deep limit (Inside head member levels at) RightSquare = inside_deep _ _ _ _ head member levels (mark_spot (takes_enum member.kind levels) at RightSquare)
sign_deep limit (Inside head member levels at) Arrow = inside_deep _ _ _ _ head member levels (mark_spot (takes_enum member.kind levels) at Arrow)
sign_deep limit state sign = tt

word_deep : (limit depth : ℕ) (item : Lexeme) (taken : ℕ → Next) (state : State) (w : Bytes) → TooDeepAt limit depth item taken (word_next state w)
word_deep limit depth item taken (Headed notes) w = if_deep limit depth item taken _ _
word_deep limit depth item taken (Keyed head notes keyword) w = if_deep limit depth item taken _ _
word_deep limit depth item taken (Inside head member levels at) w = inside_deep limit depth item taken head member levels (type_word at w)
word_deep limit depth item taken state w = tt

mark_deep : (limit : ℕ) (state : State) (spelling : Bytes) (found : Option Sign) → mark_of spelling ≡ found
    → TooDeepAt limit (here state).depth (Mark, spelling) (λ other. mark_next other state found) (mark_next limit state found)
mark_deep limit state spelling None e = tt
mark_deep limit state spelling (Some sign) e =
    subst (λ (x : Bytes). TooDeepAt limit (here state).depth (Mark, x) (λ other. sign_next other state sign) (sign_next limit state sign)) (sym (sign_spelt spelling sign e)) (sign_deep limit state sign)

plain_deep : (limit : ℕ) (state : State) (item : Lexeme) → TooDeepAt limit (here state).depth item (λ other. plain_next other state item) (plain_next limit state item)
plain_deep limit state (Word, w) = word_deep limit _ _ _ state w
plain_deep limit state (Mark, spelling) = mark_deep limit state spelling (mark_of spelling) refl
plain_deep limit state (Note, spelling) = tt

-- no slot is a bracket that opens
abbrev NotBeyond : Next → Type 0
NotBeyond Beyond = ⊥
NotBeyond next = Unit {0}

near_if : (test : Bool) (state : State) → NotBeyond (going_if test state)
near_if true state = tt
near_if false state = tt

near_keyed : (head : Head) (notes : List Bytes) (found : Option Keyword) → NotBeyond (keyed head notes found)
near_keyed head notes None = tt
near_keyed head notes (Some keyword) = tt

near_inside : (head : Head) (member : Begun) (levels : List Level) (at : Option Spot) → NotBeyond (inside_next head member levels at)
near_inside head member levels None = tt
near_inside head member levels (Some at) = tt

near_close : (head : Head) (member : Begun) (levels : List Level) (body : Option Body) → NotBeyond (close_next head member levels body)
near_close head member levels None = tt
near_close head member levels (Some body) = tt

word_near : (state : State) (notes : List Bytes) (w : Bytes) → NotBeyond (slot_word state notes w)
word_near Start notes w = near_if _ _
word_near (Between head) notes w = near_keyed head notes (keyword_of w)
word_near (Inside head member levels at) notes w = near_inside head member levels (entry_spot at notes w)
word_near state notes w = tt

close_near : (state : State) (notes : List Bytes) → NotBeyond (slot_close state notes)
close_near (Inside head member levels at) notes = near_close head member levels (body_of (takes_enum member.kind levels) at notes)
close_near state notes = tt

slot_near : (state : State) (notes : List Bytes) (item : Lexeme) → NotBeyond (slot_next state notes item)
slot_near state notes (Word, w) = word_near state notes w
slot_near state notes (Mark, spelling) = close_near state notes
slot_near state notes (Note, spelling) = tt

-- what a last item does
last_far : (limit : ℕ) (next : Next) (waiting : List Bytes) → then_read next (λ s. run limit s waiting []) ≡ TooFar → next ≡ Beyond
last_far limit (Going state) waiting e = let no : ◌≡◌ {A = Reading} (Read state waiting) TooFar = e in absurd (cc)
last_far limit Stray waiting e = let no : ◌≡◌ {A = Reading} Strayed TooFar = e in absurd (cc)
last_far limit Beyond waiting e = refl

-- the last item is a bracket, with so many open before it
abbrev pub LastDeep : ℕ → State → List Bytes → Lexeme → Type 0
LastDeep limit state waiting item = (item ≡ left_bracket) × (limit ≤ (here state).depth)
    × ((other : ℕ) → (here state).depth < other → (next : State) × (run other state waiting (item ∷ []) ≡ Read next waiting))

item_far : (limit : ℕ) (state : State) (waiting : List Bytes) (item : Lexeme)
    → ((l : ℕ) → run l state waiting (item ∷ []) ≡ cond (is_slot (here state) item) (then_read (slot_next state waiting item) (λ next. run l next [] [])) (then_read (plain_next l state item) (λ next. run l next waiting [])))
    → run limit state waiting (item ∷ []) ≡ TooFar → LastDeep limit state waiting item
item_far limit state waiting item takes e =
    by_bool (λ (b : Bool). is_slot (here state) item ≡ b → cond b (then_read (slot_next state waiting item) (λ next. run limit next [] [])) (then_read (plain_next limit state item) (λ next. run limit next waiting [])) ≡ TooFar
    → LastDeep limit state waiting item) (is_slot (here state) item)
    (λ slot again far. absurd (subst NotBeyond (last_far limit (slot_next state waiting item) [] far) (slot_near state waiting item)))
    (λ slot again far.
    let facts = subst (TooDeepAt limit (here state).depth item (λ other. plain_next other state item)) (last_far limit (plain_next limit state item) waiting far) (plain_deep limit state item) in (
      facts.0,
      facts.1,
      λ other below.
          let goes = facts.2 other below in (
            goes.0,
            takes other
                ∙ ap (λ (b : Bool). cond b (then_read (slot_next state waiting item) (λ next. run other next [] [])) (then_read (plain_next other state item) (λ next. run other next waiting []))) slot
                ∙ ap (λ (n : Next). then_read n (λ next. run other next waiting [])) goes.1,
          ),
    ))
    refl (sym (takes limit) ∙ e)

pub last_deep : (limit : ℕ) (state : State) (waiting : List Bytes) (item : Lexeme) → run limit state waiting (item ∷ []) ≡ TooFar → LastDeep limit state waiting item
last_deep limit state waiting (Note, spelling) e = let no : ◌≡◌ {A = Reading} (Read state (waiting ++ note_text spelling ∷ [])) TooFar = e in absurd (cc)
last_deep limit state waiting (Word, w) e = item_far limit state waiting (Word, w) (λ l. refl) e
last_deep limit state waiting (Mark, w) e = item_far limit state waiting (Mark, w) (λ l. refl) e

pub record DeepStop (limit : ℕ) (front : Lexemes) (item : Lexeme) : Type 0 where
  pub bracket : item ≡ left_bracket
  pub depth : depth_at_end 0 front ≡ limit
  pub goes : GoesOn (front ++ item ∷ [])

pub deep_stop : (limit : ℕ) (front : Lexemes) (item : Lexeme) (state : State) (waiting : List Bytes) → notes_good (front ++ item ∷ []) ≡ true → notes_good front ≡ true
    → run limit Start [] front ≡ Read state waiting → run limit Start [] (front ++ item ∷ []) ≡ TooFar → DeepStop limit front item
deep_stop limit front item state waiting good front_good read far =
    let last = last_deep limit state waiting item (ap (λ (r : Reading). go_on limit r (item ∷ [])) (sym read) ∙ sym (run_append limit Start [] front (item ∷ [])) ∙ far) in
    let depth : DepthIs limit Start front state = subst (λ (r : Reading). OnReading (λ last left. DepthIs limit Start front last) r) read (run_depth limit Start [] front tt refl front_good) in
    let low = depth_sound limit state depth.0 in
    let high = last.1 in
    let goes = last.2 (suc limit) (omega arith) in
    let more : run (suc limit) Start [] front ≡ Read state waiting = elim (run_larger limit (suc limit) (omega arith) Start [] front) [
      | inl missed ↦ (let none : ◌≡◌ {A = Reading} (Read state waiting) TooFar = sym read ∙ missed in absurd (cc))
      | inr same ↦ sym same ∙ read
    ] in
    record {
      bracket = last.0;
      depth = (let at = depth.2 in omega arith);
      goes = taken_goes (suc limit) (omega arith) (front ++ item ∷ []) goes.0 waiting good
          (run_append (suc limit) Start [] front (item ∷ []) ∙ ap (λ (r : Reading). go_on (suc limit) r (item ∷ [])) more ∙ goes.1);
    }

pub front_depth : (limit : ℕ) (front : Lexemes) (state : State) (waiting : List Bytes) → notes_good front ≡ true → run limit Start [] front ≡ Read state waiting
    → greatest_depth 0 front ≤ limit
front_depth limit front state waiting good read =
    let depth : DepthIs limit Start front state = subst (λ (r : Reading). OnReading (λ last left. DepthIs limit Start front last) r) read (run_depth limit Start [] front tt refl good) in
    depth.1
