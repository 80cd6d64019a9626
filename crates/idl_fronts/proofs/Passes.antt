-- whole spellings are read from the state that waits for them
use Rattle.std.proofs.Common.{◌≡◌, ℕ, zero, suc, ◌<◌, Bool, true, false, not, cond, ltb, List, [], ◌∷◌, ◌++◌, Option, Some, length, codes, refl, sym, ap, subst, ◌∙◌, arith, inl, inr, ◌⊎◌, length-append}
use Rattle.std.proofs.lemmas.Bool.{true≢false}
use Rattle.idl_token.specs.Lex.{Bytes, Lexeme, Lexemes}
use Rattle.idl_token.specs.declared.tokens.ItemKind.TheVariants.{Word, Mark, Note}
use Rattle.idl_tree.specs.declared.trees.Body.{Body}
use Rattle.idl_tree.specs.declared.trees.Core.{Core}
use Rattle.idl_tree.specs.declared.trees.Body.TheVariants.{Struct, Enum, Bool as BoolCore, Int, Float, Str, Object, Name}
use Rattle.idl_tree.specs.declared.trees.Prefix.{Prefix}
use Rattle.idl_tree.specs.declared.trees.Prefix.TheVariants.{Array, Map, Maybe}
use Rattle.idl_tree.specs.Names.{is_member_name, is_field_name}
use Rattle.idl_rules.specs.Items.{word, mark, left_bracket}
use Rattle.idl_rules.specs.Grammar.{Grammar, one, in_row, many, a_type, plain, field, a_list, a_struct, body, the_word, the_mark, a_name, is_word_of, is_mark_of, is_name_of, Whole, an_item, a_row, on_left, on_right, no_turn, a_turn, the_type}
use Rattle.idl_rules.specs.Reading.{Going, Beyond, some_if, inside_next, close_next, opened, closed, with_core, with_prefix, takes_enum, ends_with_maybe, core_of, cored, TooFar, run, then_read}
use Rattle.idl_rules.specs.declared.states.State.{State}
use Rattle.idl_rules.specs.declared.states.State.TheVariants.{Start, Headed, Between, Keyed, Ready, Middle, Inside}
use Rattle.idl_rules.specs.declared.states.Head.{Head}
use Rattle.idl_rules.specs.declared.states.Begun.{Begun}
use Rattle.idl_rules.specs.declared.states.Level.{Level}
use Rattle.idl_rules.specs.declared.states.Spot.{Spot}
use Rattle.idl_rules.specs.declared.states.Spot.TheVariants as spot
use Rattle.idl_rules.proofs.Words.{same_bytes}
use Rattle.idl_rules.proofs.Runs.{by_bool}
use Rattle.idl_rules.proofs.Completes.{core_of_name}
use Rattle.idl_fronts.proofs.Leads.{Reaches, seq, none, Steps, token}

pub word_is : (w : Bytes) (item : Lexeme) → is_word_of w item ≡ true → item ≡ word w
word_is w (Word, v) h = ap word (same_bytes v w h)
word_is w (Mark, v) h = absurd (true≢false (sym h))
word_is w (Note, v) h = absurd (true≢false (sym h))

pub mark_is : (w : Bytes) (item : Lexeme) → is_mark_of w item ≡ true → item ≡ mark w
mark_is w (Mark, v) h = ap mark (same_bytes v w h)
mark_is w (Word, v) h = absurd (true≢false (sym h))
mark_is w (Note, v) h = absurd (true≢false (sym h))

pub name_is : (form : Bytes → Bool) (item : Lexeme) → is_name_of form item ≡ true → (w : Bytes) × (item ≡ word w) × (form w ≡ true)
name_is form (Word, v) h = (v, refl, h)
name_is form (Mark, v) h = absurd (true≢false (sym h))
name_is form (Note, v) h = absurd (true≢false (sym h))

ends_other : (prefixes : List Prefix) → (ends_with_maybe (prefixes ++ Array ∷ []) ≡ false) × (ends_with_maybe (prefixes ++ Map ∷ []) ≡ false)
ends_other [] = (refl, refl)
ends_other (Array ∷ prefixes) = ends_other prefixes
ends_other (Map ∷ prefixes) = ends_other prefixes
ends_other (Maybe ∷ []) = (refl, refl)
ends_other (Maybe ∷ next ∷ prefixes) = ends_other (next ∷ prefixes)

module _ (limit : ℕ) where
  -- each whole spelling of less than n items
  abbrev pub Passes : ℕ → Grammar → State → (State → Type 0) → Type 0
  Passes n part state P = (items : Lexemes) → Whole part items → length items < n → Reaches limit state items P

  pub one_passes : (n : ℕ) (test : Lexeme → Bool) (state : State) (P : State → Type 0) → ((item : Lexeme) → test item ≡ true → Steps limit state item P) → Passes n (one test) state P
  one_passes n test state P steps items (an_item {item = item} h) low = token limit state item P (steps item h)

  pub word_passes : (n : ℕ) (w : Bytes) (state : State) (P : State → Type 0) → Steps limit state (word w) P → Passes n (the_word w) state P
  word_passes n w state P steps = one_passes n (is_word_of w) state P (λ item h. subst (λ (i : Lexeme). Steps limit state i P) (sym (word_is w item h)) steps)

  pub mark_passes : (n : ℕ) (w : Bytes) (state : State) (P : State → Type 0) → Steps limit state (mark w) P → Passes n (the_mark w) state P
  mark_passes n w state P steps = one_passes n (is_mark_of w) state P (λ item h. subst (λ (i : Lexeme). Steps limit state i P) (sym (mark_is w item h)) steps)

  pub name_passes : (n : ℕ) (form : Bytes → Bool) (state : State) (P : State → Type 0) → ((w : Bytes) → form w ≡ true → Steps limit state (word w) P) → Passes n (a_name form) state P
  name_passes n form state P steps = one_passes n (is_name_of form) state P
      (λ item h. let is = name_is form item h in subst (λ (i : Lexeme). Steps limit state i P) (sym is.1) (steps is.0 is.2))

  pub row_passes : (n : ℕ) (first next : Grammar) (state : State) (P Q : State → Type 0) → Passes n first state P → ((s : State) → P s → Passes n next s Q) → Passes n (in_row first next) state Q
  row_passes n first next state P Q one_more other items (a_row {items = front} {more = back} w v same) low =
      let size = length-append front back in
      let all = ap length same in
      seq limit state front back items P Q same (one_more front w (omega arith)) (λ s p. other s p back v (omega arith))

  -- behind one item, there is room for one item less
  first_passes : (n : ℕ) (test : Lexeme → Bool) (next : Grammar) (state : State) (P Q : State → Type 0) → Passes (suc n) (one test) state P → ((s : State) → P s → Passes n next s Q)
      → Passes (suc n) (in_row (one test) next) state Q
  first_passes n test next state P Q one_more other items (a_row {more = back} (an_item {item = item} h) v same) low =
      let all = ap length same in
      seq limit state (item ∷ []) back items P Q same (one_more (item ∷ []) (an_item h) (omega arith)) (λ s p. other s p back v (omega arith))

  module _ (head : Head) (m : Begun) where
    -- within the same brackets
    abbrev In : List Level → (Spot → Type 0) → State → Type 0
    In levels C (Inside h b ls at) = (Inside h b ls at ≡ Inside head m levels at) × C at
    In levels C state = ⊥

    go_in : (n : ℕ) (part : Grammar) (levels : List Level) (C : Spot → Type 0) (Q : State → Type 0)
        → ((at : Spot) → C at → Passes n part (Inside head m levels at) Q) → (s : State) → In levels C s → Passes n part s Q
    go_in n part levels C Q next (Inside h b ls at) p = subst (λ (s : State). Passes n part s Q) (sym p.0) (next at p.1)
    go_in n part levels C Q next Start p = absurd p
    go_in n part levels C Q next (Headed notes) p = absurd p
    go_in n part levels C Q next (Between h) p = absurd p
    go_in n part levels C Q next (Keyed h notes keyword) p = absurd p
    go_in n part levels C Q next (Ready h b) p = absurd p
    go_in n part levels C Q next (Middle h notes name input) p = absurd p

    back_in : (levels : List Level) (C : Spot → Type 0) (items : Lexemes) → ((at : Spot) → C at → Reaches limit (Inside head m levels at) items (In levels C))
        → (s : State) → In levels C s → Reaches limit s items (In levels C)
    back_in levels C items next (Inside h b ls at) p = subst (λ (s : State). Reaches limit s items (In levels C)) (sym p.0) (next at p.1)
    back_in levels C items next Start p = absurd p
    back_in levels C items next (Headed notes) p = absurd p
    back_in levels C items next (Between h) p = absurd p
    back_in levels C items next (Keyed h notes keyword) p = absurd p
    back_in levels C items next (Ready h b) p = absurd p
    back_in levels C items next (Middle h notes name input) p = absurd p

    abbrev First : Spot → Type 0
    First spot.First = Unit {0}
    First at = ⊥

    abbrev Named1 : Spot → Type 0
    Named1 (spot.Only named) = Unit {0}
    Named1 at = ⊥

    abbrev Names1 : Spot → Type 0
    Names1 (spot.Only named) = Unit {0}
    Names1 (spot.Names names) = Unit {0}
    Names1 at = ⊥

    abbrev MoreNames1 : Spot → Type 0
    MoreNames1 (spot.MoreNames names) = Unit {0}
    MoreNames1 at = ⊥

    abbrev Fields1 : Spot → Type 0
    Fields1 (spot.Fields fields) = Unit {0}
    Fields1 at = ⊥

    abbrev MoreFields1 : Spot → Type 0
    MoreFields1 (spot.MoreFields fields) = Unit {0}
    MoreFields1 at = ⊥

    abbrev Colon1 : Spot → Type 0
    Colon1 (spot.Only named) = Unit {0}
    Colon1 (spot.Field level) = ends_with_maybe level.prefixes ≡ false
    Colon1 at = ⊥

    abbrev Typed : Spot → Type 0
    Typed (spot.Prefixes level) = ends_with_maybe level.prefixes ≡ false
    Typed at = ⊥

    abbrev Plain1 : Spot → Type 0
    Plain1 (spot.Prefixes level) = Unit {0}
    Plain1 at = ⊥

    abbrev Square1 : Spot → Type 0
    Square1 (spot.Square level) = Unit {0}
    Square1 at = ⊥

    abbrev Map1 : Spot → Type 0
    Map1 (spot.Map level) = Unit {0}
    Map1 at = ⊥

    abbrev pub Closed : List Level → State → Type 0
    Closed levels s = (b : Body) × (s ≡ closed head m levels b)

    abbrev pub Types : ℕ → Type 0
    Types n = (levels : List Level) (at : Spot) → Typed at → Passes n a_type (Inside head m levels at) (In levels Fields1)

    abbrev Plains : ℕ → Type 0
    Plains n = (levels : List Level) (at : Spot) → Plain1 at → Passes n plain (Inside head m levels at) (In levels Fields1)

    -- `]`
    square_ends : (n : ℕ) (levels : List Level) (at : Spot) → Square1 at → Passes n (the_mark (codes "]")) (Inside head m levels at) (In levels Typed)
    square_ends n levels (spot.Square level) c = mark_passes n (codes "]") _ _ (λ waiting more. inr (Inside head m levels (spot.Prefixes (with_prefix level Array)), waiting, (refl, (ends_other level.prefixes).0), refl))
    square_ends n levels spot.First c = absurd c
    square_ends n levels (spot.Only x) c = absurd c
    square_ends n levels (spot.Names x) c = absurd c
    square_ends n levels (spot.MoreNames x) c = absurd c
    square_ends n levels (spot.Fields x) c = absurd c
    square_ends n levels (spot.MoreFields x) c = absurd c
    square_ends n levels (spot.Field x) c = absurd c
    square_ends n levels (spot.Prefixes x) c = absurd c
    square_ends n levels (spot.Map x) c = absurd c

    map_word : (n : ℕ) (levels : List Level) (at : Spot) → Square1 at → Passes n (the_word (codes "string")) (Inside head m levels at) (In levels Map1)
    map_word n levels (spot.Square level) c = word_passes n (codes "string") _ _ (λ waiting more. inr (Inside head m levels (spot.Map level), waiting, (refl, tt), refl))
    map_word n levels at c = absurd c

    map_ends : (n : ℕ) (levels : List Level) (at : Spot) → Map1 at → Passes n (the_mark (codes "]")) (Inside head m levels at) (In levels Typed)
    map_ends n levels (spot.Map level) c = mark_passes n (codes "]") _ _ (λ waiting more. inr (Inside head m levels (spot.Prefixes (with_prefix level Map)), waiting, (refl, (ends_other level.prefixes).1), refl))
    map_ends n levels at c = absurd c

    square_begins : (n : ℕ) (levels : List Level) (at : Spot) → Plain1 at → Passes n (the_mark (codes "[")) (Inside head m levels at) (In levels Square1)
    square_begins n levels (spot.Prefixes level) c = mark_passes n (codes "[") _ _ (λ waiting more. inr (Inside head m levels (spot.Square level), waiting, (refl, tt), refl))
    square_begins n levels at c = absurd c

    word_core : (n : ℕ) (w : Bytes) (core : Core) (levels : List Level) (at : Spot) → core_of w ≡ Some core → Plain1 at → Passes n (the_word w) (Inside head m levels at) (In levels Fields1)
    word_core n w core levels (spot.Prefixes level) found c = word_passes n w _ _ (λ waiting more. inr (
      Inside head m levels (spot.Fields (with_core level core)),
      waiting,
      (refl, tt),
      ap (λ (x : Option Core). then_read (inside_next head m levels (cored level x)) (λ next. run limit next waiting more)) found,
    ))
    word_core n w core levels at found c = absurd c

    name_core : (n : ℕ) (levels : List Level) (at : Spot) → Plain1 at → Passes n (a_name is_member_name) (Inside head m levels at) (In levels Fields1)
    name_core n levels (spot.Prefixes level) c = name_passes n is_member_name _ _ (λ w named waiting more. inr (
      Inside head m levels (spot.Fields (with_core level (Name w))),
      waiting,
      (refl, tt),
      ap (λ (x : Option Core). then_read (inside_next head m levels (cored level x)) (λ next. run limit next waiting more)) (core_of_name w named),
    ))
    name_core n levels at c = absurd c

    optional : (n : ℕ) (levels : List Level) (at : Spot) → Typed at → Passes n (the_mark (codes "?")) (Inside head m levels at) (In levels Plain1)
    optional n levels (spot.Prefixes level) c = mark_passes n (codes "?") _ _ (λ waiting more. inr (
      Inside head m levels (spot.Prefixes (with_prefix level Maybe)),
      waiting,
      (refl, tt),
      ap (λ (b : Bool). then_read (inside_next head m levels (some_if (not b) (spot.Prefixes (with_prefix level Maybe)))) (λ next. run limit next waiting more)) c,
    ))
    optional n levels at c = absurd c

    typed_plain : (at : Spot) → Typed at → Plain1 at
    typed_plain (spot.Prefixes level) c = tt
    typed_plain at c = absurd c

    -- a bracket that opens, from the state before it
    abbrev pub Opens : State → List Level → Type 0
    Opens state levels = (waiting : List Bytes) (more : Lexemes)
        → run limit state waiting (left_bracket ∷ more) ≡ then_read (opened limit head m levels) (λ next. run limit next waiting more)

    bracket_opens : (n : ℕ) (state : State) (levels : List Level) → Opens state levels → Passes n (the_mark (codes "(")) state (In levels First)
    bracket_opens n state levels opens = mark_passes n (codes "(") _ _ (λ waiting more.
        by_bool (λ (b : Bool). ltb (length levels) limit ≡ b → (run limit state waiting (left_bracket ∷ more) ≡ TooFar)
        ⊎ ((next : State) × (left : List Bytes) × In levels First next × (run limit state waiting (left_bracket ∷ more) ≡ run limit next left more))) (ltb (length levels) limit)
        (λ e again. inr (
          Inside head m levels spot.First,
          waiting,
          (refl, tt),
          opens waiting more ∙ ap (λ (b : Bool). then_read (cond b (Going (Inside head m levels spot.First)) Beyond) (λ next. run limit next waiting more)) e,
        ))
        (λ e again. inl (opens waiting more ∙ ap (λ (b : Bool). then_read (cond b (Going (Inside head m levels spot.First)) Beyond) (λ next. run limit next waiting more)) e)) refl)

    first_closes : (n : ℕ) (levels : List Level) (at : Spot) → First at → Passes n (the_mark (codes ")")) (Inside head m levels at) (Closed levels)
    first_closes n levels spot.First c = mark_passes n (codes ")") _ _ (λ waiting more. inr (closed head m levels (Struct [] waiting), [], (Struct [] waiting, refl), refl))
    first_closes n levels at c = absurd c

    fields_close : (n : ℕ) (levels : List Level) (at : Spot) → Fields1 at → Passes n (the_mark (codes ")")) (Inside head m levels at) (Closed levels)
    fields_close n levels (spot.Fields fields) c = mark_passes n (codes ")") _ _ (λ waiting more. inr (closed head m levels (Struct fields waiting), [], (Struct fields waiting, refl), refl))
    fields_close n levels at c = absurd c

    names_close : (n : ℕ) (levels : List Level) (at : Spot) → takes_enum m.kind levels ≡ true → Names1 at → Passes n (the_mark (codes ")")) (Inside head m levels at) (Closed levels)
    names_close n levels (spot.Only named) taken c = mark_passes n (codes ")") _ _ (λ waiting more. inr (
      closed head m levels (Enum (named ∷ []) waiting),
      [],
      (Enum (named ∷ []) waiting, refl),
      ap (λ (b : Bool). then_read (close_next head m levels (some_if b (Enum (named ∷ []) waiting))) (λ next. run limit next [] more)) taken,
    ))
    names_close n levels (spot.Names names) taken c = mark_passes n (codes ")") _ _ (λ waiting more. inr (closed head m levels (Enum names waiting), [], (Enum names waiting, refl), refl))
    names_close n levels at taken c = absurd c

    entry_goes : (levels : List Level) (test : Bool) (at : Spot) (more : Lexemes) → test ≡ true
        → then_read (inside_next head m levels (some_if test at)) (λ next. run limit next [] more) ≡ run limit (Inside head m levels at) [] more
    entry_goes levels test at more e = ap (λ (b : Bool). then_read (inside_next head m levels (some_if b at)) (λ next. run limit next [] more)) e

    first_field_name : (n : ℕ) (levels : List Level) (at : Spot) → First at → Passes n (a_name is_field_name) (Inside head m levels at) (In levels Colon1)
    first_field_name n levels spot.First c = name_passes n is_field_name _ _ (λ w named waiting more.
        let next = spot.Only (record { notes = waiting; name = w }) in
        inr (Inside head m levels next, [], (refl, tt), entry_goes levels (is_field_name w) next more named))
    first_field_name n levels at c = absurd c

    more_field_name : (n : ℕ) (levels : List Level) (at : Spot) → MoreFields1 at → Passes n (a_name is_field_name) (Inside head m levels at) (In levels Colon1)
    more_field_name n levels (spot.MoreFields fields) c = name_passes n is_field_name _ _ (λ w named waiting more.
        let next = spot.Field (record { fields = fields; notes = waiting; name = w; prefixes = [] }) in
        inr (Inside head m levels next, [], (refl, refl), entry_goes levels (is_field_name w) next more named))
    more_field_name n levels at c = absurd c

    first_enum_name : (n : ℕ) (levels : List Level) (at : Spot) → First at → Passes n (a_name is_field_name) (Inside head m levels at) (In levels Names1)
    first_enum_name n levels spot.First c = name_passes n is_field_name _ _ (λ w named waiting more.
        let next = spot.Only (record { notes = waiting; name = w }) in
        inr (Inside head m levels next, [], (refl, tt), entry_goes levels (is_field_name w) next more named))
    first_enum_name n levels at c = absurd c

    more_enum_name : (n : ℕ) (levels : List Level) (at : Spot) → MoreNames1 at → Passes n (a_name is_field_name) (Inside head m levels at) (In levels Names1)
    more_enum_name n levels (spot.MoreNames names) c = name_passes n is_field_name _ _ (λ w named waiting more.
        let next = spot.Names (names ++ record { notes = waiting; name = w } ∷ []) in
        inr (Inside head m levels next, [], (refl, tt), entry_goes levels (is_field_name w) next more named))
    more_enum_name n levels at c = absurd c

    colons : (n : ℕ) (levels : List Level) (at : Spot) → Colon1 at → Passes n (the_mark (codes ":")) (Inside head m levels at) (In levels Typed)
    colons n levels (spot.Only named) c = mark_passes n (codes ":") _ _ (λ waiting more.
        inr (Inside head m levels (spot.Prefixes (record { fields = []; notes = named.notes; name = named.name; prefixes = [] })), waiting, (refl, refl), refl))
    colons n levels (spot.Field level) c = mark_passes n (codes ":") _ _ (λ waiting more. inr (Inside head m levels (spot.Prefixes level), waiting, (refl, c), refl))
    colons n levels at c = absurd c

    field_comma : (n : ℕ) (levels : List Level) (at : Spot) → Fields1 at → Passes n (the_mark (codes ",")) (Inside head m levels at) (In levels MoreFields1)
    field_comma n levels (spot.Fields fields) c = mark_passes n (codes ",") _ _ (λ waiting more. inr (Inside head m levels (spot.MoreFields fields), waiting, (refl, tt), refl))
    field_comma n levels at c = absurd c

    name_comma : (n : ℕ) (levels : List Level) (at : Spot) → takes_enum m.kind levels ≡ true → Names1 at → Passes n (the_mark (codes ",")) (Inside head m levels at) (In levels MoreNames1)
    name_comma n levels (spot.Only named) taken c = mark_passes n (codes ",") _ _ (λ waiting more. inr (
      Inside head m levels (spot.MoreNames (named ∷ [])),
      waiting,
      (refl, tt),
      ap (λ (b : Bool). then_read (inside_next head m levels (some_if b (spot.MoreNames (named ∷ [])))) (λ next. run limit next waiting more)) taken,
    ))
    name_comma n levels (spot.Names names) taken c = mark_passes n (codes ",") _ _ (λ waiting more. inr (Inside head m levels (spot.MoreNames names), waiting, (refl, tt), refl))
    name_comma n levels at taken c = absurd c

    -- any number of turns that come back to the same kind of state
    turns : (n : ℕ) (turn : Grammar) (levels : List Level) (C : Spot → Type 0) → ((at : Spot) → C at → Passes n turn (Inside head m levels at) (In levels C))
        → (items : Lexemes) → Whole (many turn) items → length items < n → (at : Spot) → C at → Reaches limit (Inside head m levels at) items (In levels C)
    turns n turn levels C goes items no_turn low at c = none limit (Inside head m levels at) (In levels C) (refl, c)
    turns n turn levels C goes items (a_turn {items = front} {more = back} w v same) low at c =
        let size = length-append front back in
        let all = ap length same in
        seq limit (Inside head m levels at) front back items (In levels C) (In levels C) same (goes at c front w (omega arith))
        (λ s p. back_in levels C back (λ at' c'. turns n turn levels C goes back v (omega arith) at' c') s p)

    fields_pass : (n : ℕ) → Types n → (levels : List Level) (C : Spot → Type 0)
        → ((at : Spot) → C at → Passes n (a_name is_field_name) (Inside head m levels at) (In levels Colon1))
        → (at : Spot) → C at → Passes n field (Inside head m levels at) (In levels Fields1)
    fields_pass n types levels C names at c =
        row_passes n (a_name is_field_name) (in_row (the_mark (codes ":")) a_type) _ (In levels Colon1) (In levels Fields1) (names at c)
        (go_in n _ levels Colon1 _ (λ at c. row_passes n (the_mark (codes ":")) a_type _ (In levels Typed) (In levels Fields1) (colons n levels at c)
        (go_in n _ levels Typed _ (λ at c. types levels at c))))

    more_fields : (n : ℕ) → Types n → (levels : List Level) (at : Spot) → Fields1 at → Passes n (in_row (the_mark (codes ",")) field) (Inside head m levels at) (In levels Fields1)
    more_fields n types levels at c =
        row_passes n (the_mark (codes ",")) field _ (In levels MoreFields1) (In levels Fields1) (field_comma n levels at c)
        (go_in n _ levels MoreFields1 _ (λ at c. fields_pass n types levels MoreFields1 (more_field_name n levels) at c))

    pub struct_passes : (n : ℕ) → Types n → (levels : List Level) (state : State) → Opens state levels → Passes (suc n) a_struct state (Closed levels)
    struct_passes n types levels state opens items (on_left w) low =
        first_passes n (is_mark_of (codes "(")) (the_mark (codes ")")) state (In levels First) (Closed levels) (bracket_opens (suc n) state levels opens)
        (go_in n _ levels First _ (λ at c. first_closes n levels at c)) items w low
    struct_passes n types levels state opens items (on_right w) low =
        first_passes n (is_mark_of (codes "(")) _ state (In levels First) (Closed levels) (bracket_opens (suc n) state levels opens)
        (go_in n _ levels First _ (λ at c. row_passes n field _ _ (In levels Fields1) (Closed levels) (fields_pass n types levels First (first_field_name n levels) at c)
        (go_in n _ levels Fields1 _ (λ at c. row_passes n (many (in_row (the_mark (codes ",")) field)) (the_mark (codes ")")) _ (In levels Fields1) (Closed levels)
        (λ items w low. turns n (in_row (the_mark (codes ",")) field) levels Fields1 (more_fields n types levels) items w low at c)
        (go_in n _ levels Fields1 _ (λ at c. fields_close n levels at c)))))) items w low

    more_names : (n : ℕ) (levels : List Level) → takes_enum m.kind levels ≡ true → (at : Spot) → Names1 at
        → Passes n (in_row (the_mark (codes ",")) (a_name is_field_name)) (Inside head m levels at) (In levels Names1)
    more_names n levels taken at c =
        row_passes n (the_mark (codes ",")) (a_name is_field_name) _ (In levels MoreNames1) (In levels Names1) (name_comma n levels at taken c)
        (go_in n _ levels MoreNames1 _ (λ at c. more_enum_name n levels at c))

    enum_passes : (n : ℕ) (levels : List Level) (state : State) → takes_enum m.kind levels ≡ true → Opens state levels → Passes (suc n) (a_list (a_name is_field_name)) state (Closed levels)
    enum_passes n levels state taken opens items w low =
        first_passes n (is_mark_of (codes "(")) _ state (In levels First) (Closed levels) (bracket_opens (suc n) state levels opens)
        (go_in n _ levels First _ (λ at c. row_passes n (a_name is_field_name) _ _ (In levels Names1) (Closed levels) (first_enum_name n levels at c)
        (go_in n _ levels Names1 _ (λ at c. row_passes n (many (in_row (the_mark (codes ",")) (a_name is_field_name))) (the_mark (codes ")")) _ (In levels Names1) (Closed levels)
        (λ items w low. turns n (in_row (the_mark (codes ",")) (a_name is_field_name)) levels Names1 (more_names n levels taken) items w low at c)
        (go_in n _ levels Names1 _ (λ at c. names_close n levels at taken c)))))) items w low

    pub body_passes : (n : ℕ) → Types n → (levels : List Level) (state : State) → takes_enum m.kind levels ≡ true → Opens state levels → Passes (suc n) body state (Closed levels)
    body_passes n types levels state taken opens items (on_left w) low = struct_passes n types levels state opens items w low
    body_passes n types levels state taken opens items (on_right w) low = enum_passes n levels state taken opens items w low

    -- behind a body that is a type in place
    in_place : (levels : List Level) (level : Level) (s : State) → Closed (level ∷ levels) s → In levels Fields1 s
    in_place levels level s (b, e) = subst (In levels Fields1) (sym e) (refl, tt)

    pub reaches_as : (state : State) (items : Lexemes) (P Q : State → Type 0) → ((s : State) → P s → Q s) → Reaches limit state items P → Reaches limit state items Q
    reaches_as state items P Q f r bare e waiting more = elim (r bare e waiting more) [
      | inl far ↦ inl far
      | inr (next, left, p, g) ↦ inr (next, left, f next p, g)
    ]

    plain_body : (n : ℕ) → Types n → (levels : List Level) (at : Spot) → Plain1 at → Passes (suc n) body (Inside head m levels at) (In levels Fields1)
    plain_body n types levels (spot.Prefixes level) c items w low =
        reaches_as _ items (Closed (level ∷ levels)) (In levels Fields1) (in_place levels level)
        (body_passes n types (level ∷ levels) (Inside head m levels (spot.Prefixes level)) refl (λ waiting more. refl) items w low)
    plain_body n types levels at c items w low = absurd c

    plains_pass : (n : ℕ) → Types n → Plains (suc n)
    plains_pass n types levels at c items (on_left w) low =
        first_passes n (is_mark_of (codes "[")) (in_row (the_mark (codes "]")) a_type) _ (In levels Square1) (In levels Fields1) (square_begins (suc n) levels at c)
        (go_in n _ levels Square1 _ (λ at c. row_passes n (the_mark (codes "]")) a_type _ (In levels Typed) (In levels Fields1) (square_ends n levels at c)
        (go_in n _ levels Typed _ (λ at c. types levels at c)))) items w low
    plains_pass n types levels at c items (on_right (on_left w)) low =
        first_passes n (is_mark_of (codes "[")) (in_row (the_word (codes "string")) (in_row (the_mark (codes "]")) a_type)) _ (In levels Square1) (In levels Fields1) (square_begins (suc n) levels at c)
        (go_in n _ levels Square1 _ (λ at c. row_passes n (the_word (codes "string")) (in_row (the_mark (codes "]")) a_type) _ (In levels Map1) (In levels Fields1) (map_word n levels at c)
        (go_in n _ levels Map1 _ (λ at c. row_passes n (the_mark (codes "]")) a_type _ (In levels Typed) (In levels Fields1) (map_ends n levels at c)
        (go_in n _ levels Typed _ (λ at c. types levels at c)))))) items w low
    plains_pass n types levels at c items (on_right (on_right (on_left (on_left w)))) low = word_core (suc n) (codes "bool") BoolCore levels at refl c items w low
    plains_pass n types levels at c items (on_right (on_right (on_left (on_right (on_left w))))) low = word_core (suc n) (codes "int") Int levels at refl c items w low
    plains_pass n types levels at c items (on_right (on_right (on_left (on_right (on_right (on_left w)))))) low = word_core (suc n) (codes "float") Float levels at refl c items w low
    plains_pass n types levels at c items (on_right (on_right (on_left (on_right (on_right (on_right (on_left w))))))) low = word_core (suc n) (codes "string") Str levels at refl c items w low
    plains_pass n types levels at c items (on_right (on_right (on_left (on_right (on_right (on_right (on_right w))))))) low = word_core (suc n) (codes "object") Object levels at refl c items w low
    plains_pass n types levels at c items (on_right (on_right (on_right (on_left w)))) low = name_core (suc n) levels at c items w low
    plains_pass n types levels at c items (on_right (on_right (on_right (on_right w)))) low = plain_body n types levels at c items w low

    pub types_pass : (n : ℕ) → Types n
    types_pass zero levels at c items w low = absurd (omega arith)
    types_pass (suc n) levels at c items (the_type (on_left w)) low = plains_pass n (types_pass n) levels at (typed_plain at c) items w low
    types_pass (suc n) levels at c items (the_type (on_right w)) low =
        row_passes (suc n) (the_mark (codes "?")) plain _ (In levels Plain1) (In levels Fields1) (optional (suc n) levels at c)
        (go_in (suc n) _ levels Plain1 _ (λ at c. plains_pass n (types_pass n) levels at c)) items w low
