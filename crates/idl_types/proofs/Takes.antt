-- the reading of a type beside the reading of the same items as part of a definition
use Rattle.std.proofs.Common.{◌≡◌, ℕ, suc, ◌≤◌, Bool, true, false, cond, List, [], ◌∷◌, ◌++◌, codes, refl, sym, ap, subst, ◌∙◌, arith, inl, inr, ◌⊎◌}
use Rattle.std.specs.List.{list_all}
use Rattle.std.specs.Str.{bytes_eq}
use Rattle.std.proofs.lemmas.Bool.{and_from, and_parts, true≢false}
use Rattle.idl_token.specs.Lex.{Bytes, Lexeme, Lexemes}
use Rattle.idl_token.specs.declared.tokens.ItemKind.TheVariants.{Word, Mark, Note}
use Rattle.idl_rules.specs.Settle.{Here, is_slot, after, one_less, depth_after}
use Rattle.idl_rules.specs.Spells.{is_bare, depth_behind, depth_at_end, greatest_depth}
use Rattle.idl_rules.specs.Reading.{Next, Going, Stray, Beyond, Reading, Read, Strayed, TooFar, run, then_read, here, slot_next, plain_next}
use Rattle.idl_rules.specs.declared.states.State.{State}
use Rattle.idl_rules.specs.declared.states.State.TheVariants.{Start, Headed, Between, Keyed, Ready, Middle, Inside}
use Rattle.idl_rules.proofs.Spelled.{Sound, OnNext}
use Rattle.idl_rules.proofs.Steps.{Kept, slot_kept, plain_kept}
use Rattle.idl_rules.proofs.Runs.{OnReading, map_reading, by_bool}
use Rattle.idl_rules.proofs.Uniqueness.{Larger, plain_larger}
use Rattle.idl_rules.proofs.Stops.{depth_sound}
use Rattle.idl_types.specs.TypeReading.{is_whole_type, type_run}
use Rattle.idl_types.proofs.Places.{InType, step, step_placed}

-- one word or mark
pub type_step : (limit : ℕ) (state : State) (item : Lexeme) (items : Lexemes) → is_bare item ≡ true
    → is_whole_type state ≡ false
    → type_run limit state (item ∷ items) ≡ then_read (step limit state item) (λ s. type_run limit s items)
type_step limit state (Note, w) items bare partly = absurd (true≢false (sym bare))
type_step limit state (Word, w) items bare partly =
    ap (λ (b : Bool). then_read (cond b Stray (step limit state (Word, w))) (λ s. type_run limit s items))
    partly
type_step limit state (Mark, w) items bare partly =
    ap (λ (b : Bool). then_read (cond b Stray (step limit state (Mark, w))) (λ s. type_run limit s items))
    partly

pub whole_strays : (limit : ℕ) (state : State) (item : Lexeme) (items : Lexemes) → is_whole_type state ≡ true
    → type_run limit state (item ∷ items) ≡ Strayed
whole_strays limit state (Note, w) items whole = refl
whole_strays limit state (Word, w) items whole =
    ap (λ (b : Bool). then_read (cond b Stray (step limit state (Word, w))) (λ s. type_run limit s items))
    whole
whole_strays limit state (Mark, w) items whole =
    ap (λ (b : Bool). then_read (cond b Stray (step limit state (Mark, w))) (λ s. type_run limit s items))
    whole

cond_read : (test : Bool) (one other : Next) (read : State → Reading)
    → cond test (then_read one read) (then_read other read) ≡ then_read (cond test one other) read
cond_read true one other read = refl
cond_read false one other read = refl

pub run_step : (limit : ℕ) (state : State) (item : Lexeme) (items : Lexemes) → is_bare item ≡ true
    → run (suc limit) state [] (item ∷ items) ≡ then_read (step limit state item)
    (λ s. run (suc limit) s [] items)
run_step limit state (Note, w) items bare = absurd (true≢false (sym bare))
run_step limit state (Word, w) items bare = cond_read (is_slot (here state) (Word, w)) _ _
    (λ s. run (suc limit) s [] items)
run_step limit state (Mark, w) items bare = cond_read (is_slot (here state) (Mark, w)) _ _
    (λ s. run (suc limit) s [] items)

pub step_larger : (small large : ℕ) (state : State) (item : Lexeme) → small ≤ large
    → Larger (step small state item) (step large state item)
step_larger small large state item h =
    by_bool (λ (b : Bool). Larger (cond b (slot_next state [] item) (plain_next (suc small) state item))
    (cond b (slot_next state [] item) (plain_next (suc large) state item)))
    (is_slot (here state) item) (λ e. inr refl) (λ e. plain_larger (suc small) (suc large) state item
    (omega arith))

-- where the item leads
abbrev Comes : ℕ → State → Lexeme → State → Type 0
Comes limit state item next = Sound (suc limit) next × (here next ≡ after (here state) item)

comes : (limit : ℕ) (state : State) (item : Lexeme) (more : Lexemes) (next : Next)
    → OnNext (Kept (suc limit) state item more) next → OnNext (Comes limit state item) next
comes limit state item more (Going next) kept = (kept.1, kept.2)
comes limit state item more Stray kept = tt
comes limit state item more Beyond kept = tt

step_comes : (limit : ℕ) (state : State) (item : Lexeme) → Sound (suc limit) state
    → OnNext (Comes limit state item) (step limit state item)
step_comes limit state item sound =
    by_bool (λ (b : Bool). is_slot (here state) item ≡ b
    → OnNext (Comes limit state item) (cond b (slot_next state [] item) (plain_next (suc limit) state item)))
    (is_slot (here state) item)
    (λ slot again. comes limit state item _ (slot_next state [] item)
    (slot_kept (suc limit) state [] item sound refl slot))
    (λ slot again. comes limit state item _ (plain_next (suc limit) state item)
    (plain_kept (suc limit) state item sound))
    refl

-- the brackets that are open in the type
abbrev pub inner : State → ℕ
inner state = one_less (here state).depth

pub placed_depth : (state : State) → InType state → (here state).depth ≡ suc (inner state)
placed_depth (Inside head member levels at) p = refl
placed_depth Start p = absurd p
placed_depth (Headed notes) p = absurd p
placed_depth (Between head) p = absurd p
placed_depth (Keyed head notes keyword) p = absurd p
placed_depth (Ready head member) p = absurd p
placed_depth (Middle head notes name input) p = absurd p

one_more : (n m : ℕ) → suc n ≡ suc m → n ≡ m
one_more n m e = omega arith

less_one : (n m : ℕ) → n ≡ suc m → one_less n ≡ m
less_one n m e = ap one_less e

mark_less : (n m : ℕ) (w : Bytes) → depth_after (suc n) w ≡ suc m → depth_after n w ≡ m
mark_less n m w =
    by_bool (λ (b : Bool). cond b (suc (suc n)) (cond (bytes_eq w (codes ")")) n (suc n)) ≡ suc m
    → cond b (suc n) (cond (bytes_eq w (codes ")")) (one_less n) n) ≡ m)
    (bytes_eq w (codes "("))
    (λ e f. one_more (suc n) m f)
    (λ e. by_bool (λ (b : Bool). cond b n (suc n) ≡ suc m → cond b (one_less n) n ≡ m)
    (bytes_eq w (codes ")")) (λ e f. less_one n m f) (λ e f. one_more n m f))

item_less : (n m : ℕ) (item : Lexeme) → depth_behind (suc n) item ≡ suc m → depth_behind n item ≡ m
item_less n m (Word, w) e = one_more n m e
item_less n m (Note, w) e = one_more n m e
item_less n m (Mark, w) e = mark_less n m w e

after_depth : (place : Here) (item : Lexeme) → (after place item).depth ≡ depth_behind place.depth item
after_depth place (Word, w) = refl
after_depth place (Note, w) = refl
after_depth place (Mark, w) = refl

inner_next : (state next : State) (item : Lexeme) → InType state → InType next
    → here next ≡ after (here state) item → depth_behind (inner state) item ≡ inner next
inner_next state next item p q e =
    item_less (inner state) (inner next) item
    (ap (λ (n : ℕ). depth_behind n item) (sym (placed_depth state p)) ∙ sym (after_depth (here state) item)
    ∙ ap (λ (h : Here). h.depth) (sym e) ∙ placed_depth next q)

-- what a reading that goes on tells
pub record Taken (limit : ℕ) (state : State) (items : Lexemes) (last : State)
    (left : List Bytes) : Type 0 where
  pub none : left ≡ []
  pub bare : list_all is_bare items ≡ true
  pub sound : Sound (suc limit) last
  pub placed : InType last
  pub read : run (suc limit) state [] items ≡ Read last []
  pub deep : greatest_depth (inner state) items ≤ limit
  pub ends : depth_at_end (inner state) items ≡ inner last
  pub larger : (large : ℕ) → limit ≤ large → type_run large state items ≡ Read last []

abbrev pub Tells : ℕ → State → Lexemes → Reading → Type 0
Tells limit state items reading = OnReading (λ last left. Taken limit state items last left) reading

inner_low : (limit : ℕ) (state : State) → Sound (suc limit) state → InType state → inner state ≤ limit
inner_low limit state sound placed =
    let low = depth_sound (suc limit) state sound in
    let same = placed_depth state placed in
    omega arith

still_going : (small large : ℕ) (state next : State) (item : Lexeme) → small ≤ large
    → step small state item ≡ Going next → step large state item ≡ Going next
still_going small large state next item h e = elim (step_larger small large state item h) [
  | inl far ↦ (let no : ◌≡◌ {A = Next} (Going next) Beyond = sym e ∙ far in absurd (cc))
  | inr same ↦ sym same ∙ e
]

module _ (limit : ℕ) (state : State) (item : Lexeme) (items : Lexemes) (bare : is_bare item ≡ true) where
  then_taken : Sound (suc limit) state → InType state → is_whole_type state ≡ false → (next : Next)
      → step limit state item ≡ next
      → OnNext (Comes limit state item) next → OnNext InType next
      → ((s : State) → Sound (suc limit) s → InType s → Tells limit s items (type_run limit s items))
      → Tells limit state (item ∷ items) (then_read next (λ s. type_run limit s items))
  then_taken sound placed partly (Going next) e came place ih =
      map_reading (λ last left. Taken limit next items last left)
      (λ last left. Taken limit state (item ∷ items) last left) (type_run limit next items)
      (λ last left t.
      let same = inner_next state next item placed place came.1 in
      let low = inner_low limit state sound placed in
      let deep : greatest_depth (depth_behind (inner state) item) items ≤ limit =
      subst (λ (n : ℕ). greatest_depth n items ≤ limit) (sym same) t.deep in
      record {
        none = t.none;
        bare = and_from (is_bare item) (list_all is_bare items) bare t.bare;
        sound = t.sound;
        placed = t.placed;
        read = run_step limit state item items bare ∙ ap
            (λ (n : Next). then_read n (λ s. run (suc limit) s [] items)) e ∙ t.read;
        deep = omega arith;
        ends = subst (λ (n : ℕ). depth_at_end n items ≡ inner last) (sym same) t.ends;
        larger = λ large h. type_step large state item items bare partly
            ∙ ap (λ (n : Next). then_read n (λ s. type_run large s items))
            (still_going limit large state next item h e) ∙ t.larger large h;
      })
      (ih next came.0 place)
  then_taken sound placed partly Stray e came place ih = tt
  then_taken sound placed partly Beyond e came place ih = tt

  item_taken : Sound (suc limit) state → InType state
      → ((s : State) → Sound (suc limit) s → InType s → Tells limit s items (type_run limit s items))
      → Tells limit state (item ∷ items) (type_run limit state (item ∷ items))
  item_taken sound placed ih =
      by_bool (λ (b : Bool). is_whole_type state ≡ b
      → Tells limit state (item ∷ items) (type_run limit state (item ∷ items)))
      (is_whole_type state)
      (λ whole again. subst (Tells limit state (item ∷ items))
      (sym (whole_strays limit state item items whole)) tt)
      (λ partly again. subst (Tells limit state (item ∷ items))
      (sym (type_step limit state item items bare partly))
      (then_taken sound placed partly (step limit state item) refl (step_comes limit state item sound)
      (step_placed limit state item placed partly) ih))
      refl

pub type_taken : (limit : ℕ) (state : State) (items : Lexemes) → Sound (suc limit) state → InType state
    → Tells limit state items (type_run limit state items)
type_taken limit state [] sound placed = record {
  none = refl;
  bare = refl;
  sound = sound;
  placed = placed;
  read = refl;
  deep = inner_low limit state sound placed;
  ends = refl;
  larger = λ large h. refl;
}
type_taken limit state ((Note, w) ∷ items) sound placed = tt
type_taken limit state ((Word, w) ∷ items) sound placed =
    item_taken limit state (Word, w) items refl sound placed (λ s h p. type_taken limit s items h p)
type_taken limit state ((Mark, w) ∷ items) sound placed =
    item_taken limit state (Mark, w) items refl sound placed (λ s h p. type_taken limit s items h p)

-- a bracket that is too deep for a type is too deep for the definition
then_far : (limit : ℕ) (items : Lexemes) (next : Next)
    → ((s : State) → type_run limit s items ≡ TooFar → run (suc limit) s [] items ≡ TooFar)
    → then_read next (λ s. type_run limit s items) ≡ TooFar
    → then_read next (λ s. run (suc limit) s [] items) ≡ TooFar
then_far limit items (Going next) ih far = ih next far
then_far limit items Stray ih far = let no : ◌≡◌ {A = Reading} Strayed TooFar = far in absurd (cc)
then_far limit items Beyond ih far = refl

pub type_far : (limit : ℕ) (state : State) (items : Lexemes) → list_all is_bare items ≡ true
    → type_run limit state items ≡ TooFar → run (suc limit) state [] items ≡ TooFar
type_far limit state [] bare far = let no : ◌≡◌ {A = Reading} (Read state []) TooFar = far in absurd (cc)
type_far limit state (item ∷ items) bare far =
    let p = and_parts (is_bare item) (list_all is_bare items) bare in
    by_bool (λ (b : Bool). is_whole_type state ≡ b → run (suc limit) state [] (item ∷ items) ≡ TooFar)
    (is_whole_type state)
    (λ whole again. let no : ◌≡◌ {A = Reading} Strayed TooFar =
    sym (whole_strays limit state item items whole) ∙ far in absurd (cc))
    (λ partly again. run_step limit state item items p.0
    ∙ then_far limit items (step limit state item) (λ s f. type_far limit s items p.1 f)
    (sym (type_step limit state item items p.0 partly) ∙ far))
    refl

-- items that stray are stray in the definition, or stand behind a whole type
pub record Passed (limit : ℕ) (state : State) (items : Lexemes) : Type 0 where
  pub front : Lexemes
  pub item : Lexeme
  pub rest : Lexemes
  pub cut : items ≡ front ++ item ∷ rest
  pub last : State
  pub taken : type_run limit state front ≡ Read last []
  pub ends : is_whole_type last ≡ true

then_stray : (limit : ℕ) (state : State) (item : Lexeme) (items : Lexemes) → is_bare item ≡ true
    → is_whole_type state ≡ false → (next : Next) → step limit state item ≡ next
    → ((s : State) → type_run limit s items ≡ Strayed
    → (run (suc limit) s [] items ≡ Strayed) ⊎ Passed limit s items)
    → then_read next (λ s. type_run limit s items) ≡ Strayed
    → (then_read next (λ s. run (suc limit) s [] items) ≡ Strayed) ⊎ Passed limit state (item ∷ items)
then_stray limit state item items bare partly (Going next) e ih stray = elim (ih next stray) [
  | inl strayed ↦ inl strayed
  | inr p ↦ inr (record {
    front = item ∷ p.front;
    item = p.item;
    rest = p.rest;
    cut = ap (λ (x : Lexemes). item ∷ x) p.cut;
    last = p.last;
    taken = type_step limit state item p.front bare partly
        ∙ ap (λ (n : Next). then_read n (λ s. type_run limit s p.front)) e ∙ p.taken;
    ends = p.ends;
  })
]
then_stray limit state item items bare partly Stray e ih stray = inl refl
then_stray limit state item items bare partly Beyond e ih stray = let no : ◌≡◌ {A = Reading} TooFar Strayed =
    stray in absurd (cc)

pub type_strays : (limit : ℕ) (state : State) (items : Lexemes) → list_all is_bare items ≡ true
    → type_run limit state items ≡ Strayed
    → (run (suc limit) state [] items ≡ Strayed) ⊎ Passed limit state items
type_strays limit state [] bare stray = let no : ◌≡◌ {A = Reading} (Read state []) Strayed =
    stray in absurd (cc)
type_strays limit state (item ∷ items) bare stray =
    let p = and_parts (is_bare item) (list_all is_bare items) bare in
    by_bool (λ (b : Bool). is_whole_type state ≡ b
    → (run (suc limit) state [] (item ∷ items) ≡ Strayed) ⊎ Passed limit state (item ∷ items))
    (is_whole_type state)
    (λ whole again. inr (record {
      front = [];
      item = item;
      rest = items;
      cut = refl;
      last = state;
      taken = refl;
      ends = whole;
    }))
    (λ partly again. subst (λ (r : Reading). (r ≡ Strayed) ⊎ Passed limit state (item ∷ items))
    (sym (run_step limit state item items p.0))
    (then_stray limit state item items p.0 partly (step limit state item) refl
    (λ s f. type_strays limit s items p.1 f) (sym (type_step limit state item items p.0 partly) ∙ stray)))
    refl
