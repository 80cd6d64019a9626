-- what the reading of items as one type tells of the types whose items they are
use Rattle.std.proofs.Common.{◌≡◌, ℕ, suc, ◌+◌, ◌<◌, ◌≤◌, max, Bool, true, false, ◌&&◌, not, cond, ltb, List, [], ◌∷◌, ◌++◌, drop, Option, Some, None, map, length, codes, refl, sym, ap, subst, ◌∙◌, arith, inl, inr}
use Rattle.std.specs.List.{list_all}
use Rattle.std.specs.Str.{bytes_eq}
use Rattle.std.proofs.lemmas.List.{append-nil}
use Rattle.std.proofs.lemmas.List.Folds.{list_all-append}
use Rattle.std.proofs.lemmas.Bool.{and_from, and_parts, true≢false, not-true, cond-false, ltb-true, ltb-false}
use Rattle.idl_token.specs.Lex.{Bytes, Lexeme, Lexemes}
use Rattle.idl_token.specs.declared.tokens.ItemKind.TheVariants.{Word, Mark, Note}
use Rattle.idl_token.proofs.OneList.{one_lex}
use Rattle.idl_tree.specs.declared.trees.Field.{Field}
use Rattle.idl_tree.specs.declared.trees.TypeRef.{TypeRef}
use Rattle.idl_tree.specs.Names.{is_field_name}
use Rattle.idl_tree.specs.Form.{type_form, type_depth, are_notes, greatest}
use Rattle.idl_rules.specs.Items.{left_bracket, type_items}
use Rattle.idl_rules.specs.Settle.{Here, is_slot, settled, after}
use Rattle.idl_rules.specs.Spells.{is_bare, depth_at_end, greatest_depth}
use Rattle.idl_rules.specs.Grammar.{a_type, Whole, Front}
use Rattle.idl_rules.specs.Reading.{Next, Going, Stray, Beyond, Reading, Read, Strayed, TooFar, run, then_read, here, mark_next, mark_of, notes_good}
use Rattle.idl_rules.specs.declared.states.State.{State}
use Rattle.idl_rules.specs.declared.states.State.TheVariants.{Inside}
use Rattle.idl_rules.specs.declared.states.Head.{Head}
use Rattle.idl_rules.specs.declared.states.Begun.{Begun}
use Rattle.idl_rules.specs.declared.states.Spot.TheVariants as spot
use Rattle.idl_rules.specs.declared.states.Mark.{Mark as Sign}
use Rattle.idl_rules.specs.declared.states.Mark.TheVariants.{Open, Close, Comma, Colon, Question, LeftSquare, RightSquare, Arrow}
use Rattle.idl_rules.proofs.Folds.{field_form, field_depth}
use Rattle.idl_rules.proofs.Words.{bytes_same, sign_spelt}
use Rattle.idl_rules.proofs.Spelled.{Sound}
use Rattle.idl_rules.proofs.Runs.{OnReading, Whole as WholeRun, run_whole, by_bool}
use Rattle.idl_rules.proofs.Completes.{bodies_run, type_runs}
use Rattle.idl_rules.proofs.Fronts.{go_on, run_append}
use Rattle.idl_rules.proofs.Stops.{depth_sound, last_deep}
use Rattle.idl_fronts.specs.Bare.{without_notes}
use Rattle.idl_fronts.proofs.Beginnings.{beginning}
use Rattle.idl_fronts.proofs.Wholes.{bodies_whole, type_whole}
use Rattle.idl_fronts.proofs.Passes.{types_pass}
use Rattle.idl_fronts.proofs.Completion.{completed}
use Rattle.idl_types.specs.Types.{AreType, SpellsType}
use Rattle.idl_types.specs.TypeReading.{outer_head, outer_member, outer_level, at_type, type_read, is_whole_type, type_next, type_run}
use Rattle.idl_types.proofs.Places.{field_of, whole_at, begins_placed, whole_placed, read_whole}
use Rattle.idl_types.proofs.Nested.{is_within, nested, nested_bare, nested_behind, type_nested}
use Rattle.idl_types.proofs.Takes.{type_step, whole_strays, run_step, inner, placed_depth, Taken, Tells, type_taken, type_far, type_strays}
use Rattle.idl_types.proofs.Closes.{closes}

-- more items behind a reading
abbrev pub type_go_on : ℕ → Reading → Lexemes → Reading
type_go_on limit (Read state waiting) items = type_run limit state items
type_go_on limit Strayed items = Strayed
type_go_on limit TooFar items = TooFar

then_append : (limit : ℕ) (front items : Lexemes) (next : Next)
    → ((s : State) → type_run limit s (front ++ items) ≡ type_go_on limit (type_run limit s front) items)
    → then_read next (λ s. type_run limit s (front ++ items))
    ≡ type_go_on limit (then_read next (λ s. type_run limit s front)) items
then_append limit front items (Going state) ih = ih state
then_append limit front items Stray ih = refl
then_append limit front items Beyond ih = refl

pub type_run_append : (limit : ℕ) (state : State) (front items : Lexemes)
    → type_run limit state (front ++ items) ≡ type_go_on limit (type_run limit state front) items
type_run_append limit state [] items = refl
type_run_append limit state (item ∷ front) items =
    then_append limit front items (type_next limit state item) (λ s. type_run_append limit s front items)

-- words and marks alone
bare_good : (items : Lexemes) → list_all is_bare items ≡ true → notes_good items ≡ true
bare_good [] h = refl
bare_good ((Note, w) ∷ items) h = absurd (true≢false (sym h))
bare_good ((Word, w) ∷ items) h = bare_good items h
bare_good ((Mark, w) ∷ items) h = bare_good items h

bare_same : (items : Lexemes) → list_all is_bare items ≡ true → without_notes items ≡ items
bare_same [] h = refl
bare_same ((Note, w) ∷ items) h = absurd (true≢false (sym h))
bare_same ((Word, w) ∷ items) h = ap (λ (x : Lexemes). (Word, w) ∷ x) (bare_same items h)
bare_same ((Mark, w) ∷ items) h = ap (λ (x : Lexemes). (Mark, w) ∷ x) (bare_same items h)

settled_one : (place : Here) (item : Lexeme) (items : Lexemes) → ((p : Here) → settled p [] items ≡ items)
    → cond (is_slot place item) ([] ++ item ∷ settled (after place item) [] items)
    (item ∷ settled (after place item) [] items) ≡ item ∷ items
settled_one place item items ih =
    by_bool (λ (b : Bool). cond b ([] ++ item ∷ settled (after place item) [] items)
    (item ∷ settled (after place item) [] items) ≡ item ∷ items) (is_slot place item)
    (λ e. ap (λ (x : Lexemes). item ∷ x) (ih (after place item)))
    (λ e. ap (λ (x : Lexemes). item ∷ x) (ih (after place item)))

settled_bare : (place : Here) (items : Lexemes) → list_all is_bare items ≡ true
    → settled place [] items ≡ items
settled_bare place [] h = refl
settled_bare place ((Note, w) ∷ items) h = absurd (true≢false (sym h))
settled_bare place ((Word, w) ∷ items) h = settled_one place (Word, w) items (λ p. settled_bare p items h)
settled_bare place ((Mark, w) ∷ items) h = settled_one place (Mark, w) items (λ p. settled_bare p items h)

begins_sound : (limit : ℕ) → Sound (suc limit) at_type
begins_sound limit = record {
  head = record { notes = refl; name = refl; members = refl; within = omega arith };
  member = record { notes = refl; name = refl; kind = tt };
  levels = tt;
  within = omega arith;
  spot = record {
    fields = record { form = refl; within = omega arith };
    notes = refl;
    name = refl;
    prefixes = refl;
  };
}

-- items behind which a type is whole are those of that type
read_type : (limit : ℕ) (items : Lexemes) (of : TypeRef) → list_all is_bare items ≡ true
    → run (suc limit) at_type [] items ≡ Read (whole_at of) []
    → AreType items of × (type_depth of ≤ limit)
read_type limit items of bare e =
    let w : WholeRun (suc limit) at_type [] items (whole_at of) [] =
    subst (λ (r : Reading). OnReading (WholeRun (suc limit) at_type [] items) r) e
    (run_whole (suc limit) at_type [] items (begins_sound limit) refl (bare_good items bare)) in
    let fields = w.0.spot.0 in
    let one = and_parts (field_form (field_of of)) true fields.form in
    let two = and_parts (are_notes [] && is_field_name (codes "a")) (type_form of) one.0 in
    let low : greatest (map field_depth (field_of of ∷ [])) + 1 ≤ suc limit = fields.within in
    let same : settled (here at_type) [] items ≡ (type_items of ++ []) ++ [] =
    ap (λ (x : Lexemes). drop 7 x) w.2 in (
      record {
        form = two.1;
        bare = bare;
        same = sym (settled_bare (here at_type) items bare) ∙ same ∙ append-nil (type_items of ++ [])
            ∙ append-nil (type_items of);
      },
      omega arith,
    )

-- the items of a type are read as that type
reads_type : (limit : ℕ) (of : TypeRef) → type_form of ≡ true → type_depth of ≤ limit
    → run (suc limit) at_type [] (type_items of) ≡ Read (whole_at of) []
reads_type limit of form low =
    ap (λ (x : Lexemes). run (suc limit) at_type [] x) (sym (append-nil (type_items of)))
    ∙ type_runs (suc limit) outer_head outer_member (type_depth of)
    (bodies_run (suc limit) outer_head outer_member (type_depth of)) [] [] (field_of of) [] form
    (omega arith) (omega arith)

taken_at : (limit : ℕ) (items : Lexemes) (state : State) (waiting : List Bytes)
    → type_run limit at_type items ≡ Read state waiting → Taken limit at_type items state waiting
taken_at limit items state waiting e =
    subst (Tells limit at_type items) e (type_taken limit at_type items (begins_sound limit) begins_placed)

some_same : (of other : TypeRef) → ◌≡◌ {A = Option TypeRef} (Some of) (Some other) → of ≡ other
some_same of other e = cc

pub taken_type : (limit : ℕ) (items : Lexemes) (state : State) (waiting : List Bytes) (of : TypeRef)
    → type_run limit at_type items ≡ Read state waiting
    → type_read state ≡ Some of → AreType items of × (type_depth of ≤ limit)
taken_type limit items state waiting of e found =
    let t = taken_at limit items state waiting e in
    let w = whole_placed state t.placed (read_whole state of found) in
    let same = some_same w.0 of (sym (ap type_read w.1) ∙ found) in
    read_type limit items of t.bare (t.read ∙ ap (λ (s : State). Read s []) (w.1 ∙ ap whole_at same))

spelled_whole : (items : Lexemes) (of : TypeRef) → AreType items of → Whole a_type items
spelled_whole items of are =
    subst (λ (x : Lexemes). Whole a_type x) (ap without_notes (sym are.same) ∙ bare_same items are.bare)
    (type_whole (type_depth of) (bodies_whole (type_depth of)) of are.form (omega arith))

pub taken_front : (limit : ℕ) (items : Lexemes) (state : State) (waiting : List Bytes)
    → type_run limit at_type items ≡ Read state waiting → Front a_type items
taken_front limit items state waiting e =
    let t = taken_at limit items state waiting e in
    let c = closes (suc limit) state t.placed in
    let all = items ++ c.rest in
    let bare : list_all is_bare all ≡ true = list_all-append is_bare items c.rest
    ∙ and_from (list_all is_bare items) (list_all is_bare c.rest) t.bare c.bare in
    let is = read_type limit all c.of bare (run_append (suc limit) at_type [] items c.rest
    ∙ ap (λ (r : Reading). go_on (suc limit) r c.rest) t.read ∙ c.read) in
    beginning a_type all (spelled_whole all c.of is.0) items c.rest refl

pub taken_depth : (limit : ℕ) (items : Lexemes) (state : State) (waiting : List Bytes)
    → type_run limit at_type items ≡ Read state waiting → greatest_depth 0 items ≤ limit
taken_depth limit items state waiting e = (taken_at limit items state waiting e).deep

-- behind a whole type comes a `,` or a `)`
mark_strays : (limit : ℕ) (head : Head) (member : Begun) (fields : List Field) (spelling : Bytes)
    (rest : Lexemes) → bytes_eq spelling (codes ",") ≡ false
    → (found : Option Sign) → mark_of spelling ≡ found
    → then_read (mark_next limit (Inside head member [] (spot.Fields fields)) found)
    (λ next. run limit next [] rest) ≡ Strayed
mark_strays limit head member fields spelling rest other None e = refl
mark_strays limit head member fields spelling rest other (Some Comma) e =
    absurd (true≢false (sym (bytes_same (codes ","))
    ∙ ap (λ (x : Bytes). bytes_eq x (codes ",")) (sym (sign_spelt spelling Comma e)) ∙ other))
mark_strays limit head member fields spelling rest other (Some Open) e = refl
mark_strays limit head member fields spelling rest other (Some Close) e = refl
mark_strays limit head member fields spelling rest other (Some Colon) e = refl
mark_strays limit head member fields spelling rest other (Some Question) e = refl
mark_strays limit head member fields spelling rest other (Some LeftSquare) e = refl
mark_strays limit head member fields spelling rest other (Some RightSquare) e = refl
mark_strays limit head member fields spelling rest other (Some Arrow) e = refl

behind_whole : (limit : ℕ) (head : Head) (member : Begun) (fields : List Field) (item : Lexeme)
    (rest : Lexemes) → nested 0 (item ∷ rest) ≡ true
    → run limit (Inside head member [] (spot.Fields fields)) [] (item ∷ rest) ≡ Strayed
behind_whole limit head member fields (Note, w) rest nest = absurd (true≢false (sym nest))
behind_whole limit head member fields (Word, w) rest nest = refl
behind_whole limit head member fields (Mark, w) rest nest =
    let p = and_parts (is_within 0 w) _ nest in
    let q = and_parts (not (bytes_eq w (codes ","))) (not (bytes_eq w (codes ")"))) p.0 in
    cond-false (bytes_eq w (codes ")")) _ _ (not-true _ q.1)
    ∙ mark_strays limit head member fields w rest (not-true _ q.0) (mark_of w) refl

-- a whole spelling of a type is taken or too deep
whole_goes : (limit : ℕ) (items : Lexemes) → Whole a_type items → run (suc limit) at_type [] items ≡ Strayed
    → ⊥
whole_goes limit items w strayed =
    let same = bare_same items (nested_bare 0 items (type_nested items w)) in
    let all : run (suc limit) at_type [] (items ++ []) ≡ Strayed =
    ap (λ (x : Lexemes). run (suc limit) at_type [] x) (append-nil items) ∙ strayed in
    elim (types_pass (suc limit) outer_head outer_member (suc (length items)) []
    (spot.Prefixes outer_level) refl items w (omega arith) items same [] []) [
      | inl far ↦ (let no : ◌≡◌ {A = Reading} Strayed TooFar = sym all ∙ far in absurd (cc))
      | inr (next, left, p, e) ↦ (let no : ◌≡◌ {A = Reading} Strayed (Read next left) = sym all
          ∙ e in absurd (cc))
    ]

stray_whole : (limit : ℕ) (items : Lexemes) → type_run limit at_type items ≡ Strayed → Whole a_type items → ⊥
stray_whole limit items strayed w =
    let nest = type_nested items w in
    elim (type_strays limit at_type items (nested_bare 0 items nest) strayed) [
      | inl e ↦ whole_goes limit items w e
      | inr p ↦ (
          let t = taken_at limit p.front p.last [] p.taken in
          let at = whole_placed p.last t.placed p.ends in
          let ends : depth_at_end 0 p.front ≡ 0 = t.ends ∙ ap inner at.1 in
          let behind = nested_behind 0 p.front (p.item ∷ p.rest) (ap (nested 0) (sym p.cut) ∙ nest) in
          let last : nested 0 (p.item ∷ p.rest) ≡ true =
          subst (λ (n : ℕ). nested n (p.item ∷ p.rest) ≡ true) ends behind in
          whole_goes limit items w (
          ap (λ (x : Lexemes). run (suc limit) at_type [] x) p.cut
          ∙ run_append (suc limit) at_type [] p.front (p.item ∷ p.rest)
          ∙ ap (λ (r : Reading). go_on (suc limit) r (p.item ∷ p.rest)) t.read
          ∙ ap (λ (s : State). run (suc limit) s [] (p.item ∷ p.rest)) at.1
          ∙ behind_whole (suc limit) outer_head outer_member (field_of at.0 ∷ []) p.item p.rest last))
    ]

pub stray_front : (limit : ℕ) (front : Lexemes) (item : Lexeme)
    → type_run limit at_type (front ++ item ∷ []) ≡ Strayed → Front a_type (front ++ item ∷ []) → ⊥
stray_front limit front item strayed is_front =
    let items = front ++ item ∷ [] in
    let c = completed a_type items is_front tt in
    stray_whole limit (items ++ c.rest) (type_run_append limit at_type items c.rest
    ∙ ap (λ (r : Reading). type_go_on limit r c.rest) strayed) c.spelled

pub stray_type : (limit : ℕ) (items : Lexemes) → type_run limit at_type items ≡ Strayed → (of : TypeRef)
    → AreType items of → ⊥
stray_type limit items strayed of are = stray_whole limit items strayed (spelled_whole items of are)

state_same : (state other : State) (left : List Bytes)
    → ◌≡◌ {A = Reading} (Read state left) (Read other left) → state ≡ other
state_same state other left e = cc

pub missing_type : (limit : ℕ) (items : Lexemes) (state : State) (waiting : List Bytes)
    → type_run limit at_type items ≡ Read state waiting
    → type_read state ≡ None → (of : TypeRef) → AreType items of → ⊥
missing_type limit items state waiting e none of are =
    let t = taken_at limit items state waiting e in
    let large = max limit (type_depth of) in
    let u = taken_at large items state [] (t.larger large (omega arith)) in
    let read = ap (λ (x : Lexemes). run (suc large) at_type [] x) are.same
    ∙ reads_type large of are.form (omega arith) in
    let same = state_same state (whole_at of) [] (sym u.read ∙ read) in
    let no : ◌≡◌ {A = Option TypeRef} None (Some of) = sym none ∙ ap type_read same in
    absurd (cc)

pub deep_type : (limit : ℕ) (items : Lexemes) → type_run limit at_type items ≡ TooFar → (of : TypeRef)
    → AreType items of → limit < type_depth of
deep_type limit items far of are =
    by_bool (λ (b : Bool). ltb limit (type_depth of) ≡ b → limit < type_depth of) (ltb limit (type_depth of))
    (λ e again. ltb-true limit (type_depth of) e)
    (λ e again.
    let low = ltb-false limit (type_depth of) e in
    let read = ap (λ (x : Lexemes). run (suc limit) at_type [] x) are.same
    ∙ reads_type limit of are.form low in
    let no : ◌≡◌ {A = Reading} TooFar (Read (whole_at of) []) =
    sym (type_far limit at_type items are.bare far) ∙ read in
    absurd (cc)) refl

-- a bracket that is too deep stands where no type is whole
far_bare : (limit : ℕ) (state : State) (item : Lexeme) → type_run limit state (item ∷ []) ≡ TooFar
    → is_bare item ≡ true
far_bare limit state (Word, w) far = refl
far_bare limit state (Mark, w) far = refl
far_bare limit state (Note, w) far = let no : ◌≡◌ {A = Reading} Strayed TooFar = far in absurd (cc)

far_partly : (limit : ℕ) (state : State) (item : Lexeme) → type_run limit state (item ∷ []) ≡ TooFar
    → is_whole_type state ≡ false
far_partly limit state item far =
    by_bool (λ (b : Bool). is_whole_type state ≡ b → b ≡ false) (is_whole_type state)
    (λ whole again.
    let no : ◌≡◌ {A = Reading} Strayed TooFar = sym (whole_strays limit state item [] whole) ∙ far in
    absurd (cc))
    (λ partly again. refl) refl

pub deep_stop : (limit : ℕ) (front : Lexemes) (item : Lexeme) (state : State) (waiting : List Bytes)
    → type_run limit at_type front ≡ Read state waiting
    → type_run limit at_type (front ++ item ∷ []) ≡ TooFar
    → (item ≡ left_bracket) × (depth_at_end 0 front ≡ limit) × Front a_type (front ++ item ∷ [])
deep_stop limit front item state waiting read far =
    let t = taken_at limit front state waiting read in
    let last : type_run limit state (item ∷ []) ≡ TooFar =
    ap (λ (r : Reading). type_go_on limit r (item ∷ [])) (sym read)
    ∙ sym (type_run_append limit at_type front (item ∷ [])) ∙ far in
    let bare = far_bare limit state item last in
    let partly = far_partly limit state item last in
    let deep = last_deep (suc limit) state [] item
    (type_far limit state (item ∷ []) (and_from (is_bare item) true bare refl) last) in
    let high = deep.1 in
    let low = depth_sound (suc limit) state t.sound in
    let depth = placed_depth state t.placed in
    let ends : depth_at_end 0 front ≡ inner state = t.ends in
    let goes = deep.2 (suc (suc limit)) (omega arith) in
    let one : type_run (suc limit) state (item ∷ []) ≡ Read goes.0 [] =
    type_step (suc limit) state item [] bare partly ∙ sym (run_step (suc limit) state item [] bare)
    ∙ goes.1 in
    let all : type_run (suc limit) at_type (front ++ item ∷ []) ≡ Read goes.0 [] =
    type_run_append (suc limit) at_type front (item ∷ [])
    ∙ ap (λ (r : Reading). type_go_on (suc limit) r (item ∷ [])) (t.larger (suc limit) (omega arith)) ∙ one in
    (deep.0, omega arith, taken_front (suc limit) (front ++ item ∷ []) goes.0 [] all)

pub one_type : (text : Bytes) (of other : TypeRef) → SpellsType of text → SpellsType other text → of ≡ other
one_type text of other (items, lex, are) (others, lex', are') =
    let large = max (type_depth of) (type_depth other) in
    let same : type_items of ≡ type_items other = sym are.same ∙ one_lex items others text lex lex'
    ∙ are'.same in
    let states = state_same (whole_at of) (whole_at other) []
    (sym (reads_type large of are.form (omega arith))
    ∙ ap (λ (x : Lexemes). run (suc large) at_type [] x) same
    ∙ reads_type large other are'.form (omega arith)) in
    some_same of other (ap type_read states)
