-- a front is what goes on
use Rattle.std.proofs.Common.{◌≡◌, ℕ, zero, suc, ◌+◌, ◌<◌, ◌≤◌, Bool, true, ◌&&◌, cond, List, [], ◌∷◌, ◌++◌, length, codes, refl, sym, ap, subst, ◌∙◌, append_assoc, arith, inl, inr, length-append}
use Rattle.std.specs.List.{list_all}
use Rattle.std.specs.Str.{bytes_eq}
use Rattle.std.proofs.lemmas.List.{append-nil}
use Rattle.std.proofs.lemmas.List.Folds.{list_all-append}
use Rattle.std.proofs.lemmas.Bool.{and_from, and_parts, true≢false}
use Rattle.idl_token.specs.Lex.{Bytes, Lexeme, Lexemes}
use Rattle.idl_token.specs.declared.tokens.ItemKind.TheVariants.{Word, Mark, Note}
use Rattle.idl_tree.specs.declared.trees.Interface.{Interface}
use Rattle.idl_rules.specs.Items.{Items, word, mark}
use Rattle.idl_tree.specs.Names.{is_interface_name, is_member_name, is_field_name}
use Rattle.idl_rules.specs.Settle.{outside, one_less}
use Rattle.idl_rules.specs.Spells.{GoesOn, is_bare, depth_behind, depth_at_end}
use Rattle.idl_rules.specs.Grammar.{Grammar, one, in_row, either, many, a_type, type_rule, plain, field, a_list, a_struct, body, member, definition, the_word, the_mark, a_name, Whole, an_item, a_row, on_left, on_right, no_turn, a_turn, the_type, Front, nothing, whole, of_first, of_next, of_left, of_right, of_turn, of_type}
use Rattle.idl_rules.specs.Reading.{Reading, Read, Strayed, TooFar, run, note_good, notes_good}
use Rattle.idl_rules.specs.declared.states.State.{State}
use Rattle.idl_rules.specs.declared.states.State.TheVariants.{Start, Headed, Between, Keyed, Ready, Middle, Inside}
use Rattle.idl_rules.proofs.Words.{bytes_same}
use Rattle.idl_rules.proofs.Runs.{OnReading, Whole as WholeRun, run_whole, by_bool}
use Rattle.idl_rules.proofs.Uniqueness.{tree_of}
use Rattle.idl_rules.proofs.Fronts.{go_on, run_append}
use Rattle.idl_rules.proofs.Stops.{deep_stop}
use Rattle.idl_fronts.specs.Bare.{without_notes}
use Rattle.idl_fronts.proofs.Beginnings.{beginning}
use Rattle.idl_fronts.proofs.Wholes.{bare_append, definition_whole}
use Rattle.idl_fronts.proofs.Leads.{bare_settled}
use Rattle.idl_fronts.proofs.Members.{IsBetween, definition_passes}

-- each part has an example
abbrev pub Good : Grammar → Type 0
Good (one test) = (item : Lexeme) × (without_notes (item ∷ []) ≡ item ∷ []) × (test item ≡ true)
Good (in_row first next) = Good first × Good next
Good (either left right) = Good left × Good right
Good (many turn) = Good turn
Good a_type = Unit {0}

pub record Sample (part : Grammar) (front : Lexemes) : Type 0 where
  pub rest : Lexemes
  pub bare : without_notes rest ≡ rest
  pub spelled : Whole part (front ++ rest)

sample : (part : Grammar) → Good part → Sample part []
sample (one test) (item, bare, h) = record { rest = item ∷ []; bare = bare; spelled = an_item h }
sample (in_row first next) (g, h) =
    let a = sample first g in
    let b = sample next h in
    record {
      rest = a.rest ++ b.rest;
      bare = bare_append a.rest b.rest ∙ ap (λ (x : Lexemes). x ++ without_notes b.rest) a.bare ∙ ap (λ (x : Lexemes). a.rest ++ x) b.bare;
      spelled = a_row a.spelled b.spelled refl;
    }
sample (either left right) (g, h) = let a = sample left g in record { rest = a.rest; bare = a.bare; spelled = on_left a.spelled }
sample (many turn) g = record { rest = []; bare = refl; spelled = no_turn }
sample a_type g = record { rest = word (codes "int") ∷ []; bare = refl; spelled = the_type (on_left (on_right (on_right (on_left (on_right (on_left (an_item refl))))))) }

many_append : (turn : Grammar) (items more : Lexemes) → Whole (many turn) items → Whole turn more → Whole (many turn) (items ++ more)
many_append turn items more no_turn w = a_turn w no_turn (sym (append-nil more))
many_append turn items more (a_turn {items = front} {more = back} v vs same) w =
    a_turn v (many_append turn back more vs w) (ap (λ (x : Lexemes). x ++ more) same ∙ append_assoc front back more)

good_word : (w : Bytes) → Good (the_word w)
good_word w = (word w, refl, bytes_same w)

good_mark : (w : Bytes) → Good (the_mark w)
good_mark w = (mark w, refl, bytes_same w)

good_name : (form : Bytes → Bool) (w : Bytes) → form w ≡ true → Good (a_name form)
good_name form w h = (word w, refl, h)

good_list : (entry : Grammar) → Good entry → Good (a_list entry)
good_list entry g = (good_mark (codes "("), (g, ((good_mark (codes ","), g), good_mark (codes ")"))))

good_struct : Good a_struct
good_struct = ((good_mark (codes "("), good_mark (codes ")")), good_list field (good_name is_field_name (codes "a") refl, (good_mark (codes ":"), tt)))

good_body : Good body
good_body = (good_struct, good_list (a_name is_field_name) (good_name is_field_name (codes "a") refl))

good_plain : Good plain
good_plain = (
  (good_mark (codes "["), (good_mark (codes "]"), tt)),
  (
    (good_mark (codes "["), (good_word (codes "string"), (good_mark (codes "]"), tt))),
    (
      (good_word (codes "bool"), (good_word (codes "int"), (good_word (codes "float"), (good_word (codes "string"), good_word (codes "object"))))),
      (good_name is_member_name (codes "A") refl, good_body),
    ),
  ),
)

good_type : Good type_rule
good_type = (good_plain, (good_mark (codes "?"), good_plain))

good_member : Good member
good_member = (
  (good_word (codes "type"), (good_name is_member_name (codes "A") refl, good_body)),
  (
    (good_word (codes "method"), (good_name is_member_name (codes "A") refl, (good_struct, (good_mark (codes "->"), good_struct)))),
    (good_word (codes "error"), (good_name is_member_name (codes "A") refl, good_struct)),
  ),
)

good_definition : Good definition
good_definition = (good_word (codes "interface"), (good_name is_interface_name (codes "a.b") refl, good_member))

pub completed : (part : Grammar) (front : Lexemes) → Front part front → Good part → Sample part front
completed part front nothing g = sample part g
completed part front (whole w) g = record { rest = []; bare = refl; spelled = subst (λ (x : Lexemes). Whole part x) (sym (append-nil front)) w }
completed part front (of_first {first = first} {next = next} f) (g, h) =
    let a = completed first front f g in
    let b = sample next h in
    record {
      rest = a.rest ++ b.rest;
      bare = bare_append a.rest b.rest ∙ ap (λ (x : Lexemes). x ++ without_notes b.rest) a.bare ∙ ap (λ (x : Lexemes). a.rest ++ x) b.bare;
      spelled = a_row a.spelled b.spelled (sym (append_assoc front a.rest b.rest));
    }
completed part front (of_next {next = next} {items = items} {more = more} w f same) (g, h) =
    let a = completed next more f h in
    record { rest = a.rest; bare = a.bare; spelled = a_row w a.spelled (ap (λ (x : Lexemes). x ++ a.rest) same ∙ append_assoc items more a.rest) }
completed part front (of_left {left = left} f) (g, h) = let a = completed left front f g in record { rest = a.rest; bare = a.bare; spelled = on_left a.spelled }
completed part front (of_right {right = right} f) (g, h) = let a = completed right front f h in record { rest = a.rest; bare = a.bare; spelled = on_right a.spelled }
completed part front (of_turn {turn = turn} {items = items} {more = more} ws f same) g =
    let a = completed turn more f g in
    record {
      rest = a.rest;
      bare = a.bare;
      spelled = subst (λ (x : Lexemes). Whole (many turn) x) (sym (ap (λ (x : Lexemes). x ++ a.rest) same ∙ append_assoc items more a.rest)) (many_append turn items (more ++ a.rest) ws a.spelled);
    }
completed part front (of_type f) g = let a = completed type_rule front f good_type in record { rest = a.rest; bare = a.bare; spelled = the_type a.spelled }

-- a reading that is too deep has so many items
record Far (limit : ℕ) (items : Lexemes) : Type 0 where
  front : Lexemes
  item : Lexeme
  rest : Lexemes
  cut : items ≡ front ++ item ∷ rest
  state : State
  waiting : List Bytes
  read : run limit Start [] front ≡ Read state waiting
  stopped : run limit Start [] (front ++ item ∷ []) ≡ TooFar

far_next : (limit : ℕ) (front : Lexemes) (item : Lexeme) (rest : Lexemes) (state : State) (waiting : List Bytes) → run limit Start [] front ≡ Read state waiting
    → (reading : Reading) → run limit Start [] (front ++ item ∷ []) ≡ reading → go_on limit reading rest ≡ TooFar
    → ((s : State) (w : List Bytes) → run limit Start [] (front ++ item ∷ []) ≡ Read s w → Far limit ((front ++ item ∷ []) ++ rest)) → Far limit (front ++ item ∷ rest)
far_next limit front item rest state waiting read (Read s w) e far ih = subst (Far limit) (append_assoc front (item ∷ []) rest) (ih s w e)
far_next limit front item rest state waiting read Strayed e far ih = let no : ◌≡◌ {A = Reading} Strayed TooFar = far in absurd (cc)
far_next limit front item rest state waiting read TooFar e far ih =
    record { front = front; item = item; rest = rest; cut = refl; state = state; waiting = waiting; read = read; stopped = e }

far_at : (limit : ℕ) (front rest : Lexemes) (state : State) (waiting : List Bytes) → run limit Start [] front ≡ Read state waiting → run limit Start [] (front ++ rest) ≡ TooFar → Far limit (front ++ rest)
far_at limit front [] state waiting read far =
    let no : ◌≡◌ {A = Reading} (Read state waiting) TooFar = sym read ∙ ap (λ (x : Lexemes). run limit Start [] x) (sym (append-nil front)) ∙ far in absurd (cc)
far_at limit front (item ∷ rest) state waiting read far =
    let assoc = append_assoc front (item ∷ []) rest in
    let all : run limit Start [] ((front ++ item ∷ []) ++ rest) ≡ TooFar = ap (λ (x : Lexemes). run limit Start [] x) assoc ∙ far in
    far_next limit front item rest state waiting read (run limit Start [] (front ++ item ∷ [])) refl
    (sym (run_append limit Start [] (front ++ item ∷ []) rest) ∙ all)
    (λ s w e. far_at limit (front ++ item ∷ []) rest s w e all)

low : (depth : ℕ) → one_less depth ≤ suc depth
low zero = omega arith
low (suc n) = omega arith

depth_one : (depth : ℕ) (item : Lexeme) → depth_behind depth item ≤ suc depth
depth_one depth (Word, w) = omega arith
depth_one depth (Note, w) = omega arith
depth_one depth (Mark, w) =
    by_bool (λ (b : Bool). cond b (suc depth) (cond (bytes_eq w (codes ")")) (one_less depth) depth) ≤ suc depth) (bytes_eq w (codes "("))
    (λ e. omega arith) (λ e. by_bool (λ (b : Bool). cond b (one_less depth) depth ≤ suc depth) (bytes_eq w (codes ")")) (λ f. low depth) (λ f. omega arith))

depth_length : (depth : ℕ) (items : Lexemes) → depth_at_end depth items ≤ depth + length items
depth_length depth [] = omega arith
depth_length depth (item ∷ items) =
    let next = depth_one depth item in
    let rest = depth_length (depth_behind depth item) items in
    omega arith

bare_shorter : (items : Lexemes) → length (without_notes items) ≤ length items
bare_shorter [] = omega arith
bare_shorter ((Note, w) ∷ items) = let rest = bare_shorter items in omega arith
bare_shorter ((Word, w) ∷ items) = let rest = bare_shorter items in omega arith
bare_shorter ((Mark, w) ∷ items) = let rest = bare_shorter items in omega arith

shorter_one : (items : Lexemes) → length (without_notes items) ≡ suc (length items) → ⊥
shorter_one items e = let rest = bare_shorter items in omega arith

all_bare : (items : Lexemes) → without_notes items ≡ items → list_all is_bare items ≡ true
all_bare [] e = refl
all_bare ((Word, w) ∷ items) e = let tail : without_notes items ≡ items = cc in all_bare items tail
all_bare ((Mark, w) ∷ items) e = let tail : without_notes items ≡ items = cc in all_bare items tail
all_bare ((Note, w) ∷ items) e = absurd (shorter_one items (ap length e))

bare_good : (items : Lexemes) → list_all is_bare items ≡ true → notes_good items ≡ true
bare_good [] h = refl
bare_good ((Note, w) ∷ items) h = absurd (true≢false (sym h))
bare_good ((Word, w) ∷ items) h = bare_good items h
bare_good ((Mark, w) ∷ items) h = bare_good items h

good_both : (items front : Lexemes) (item : Lexeme) (rest : Lexemes) → notes_good items ≡ true → items ≡ front ++ item ∷ rest
    → (notes_good (front ++ item ∷ []) ≡ true) × (notes_good front ≡ true)
good_both items front item rest good cut =
    let all : (notes_good front && (note_good item && notes_good rest)) ≡ true = sym (list_all-append note_good front (item ∷ rest)) ∙ ap notes_good (sym cut) ∙ good in
    let p = and_parts (notes_good front) (note_good item && notes_good rest) all in
    let q = and_parts (note_good item) (notes_good rest) p.1 in
    (list_all-append note_good front (item ∷ []) ∙ and_from (notes_good front) (note_good item && true) p.0 (and_from (note_good item) true q.0 refl), p.0)

-- a front goes on
near : (limit : ℕ) (items : Lexemes) → notes_good items ≡ true → length items < limit → run limit Start [] items ≡ TooFar → ⊥
near limit items good low far =
    let f = far_at limit [] items Start [] refl far in
    let both = good_both items f.front f.item f.rest good f.cut in
    let stop = deep_stop limit f.front f.item f.state f.waiting both.0 both.1 f.read f.stopped in
    let deep = depth_length 0 f.front in
    let at = stop.depth in
    let size = length-append f.front (f.item ∷ f.rest) in
    let all = ap length f.cut in
    omega arith

ended : (limit : ℕ) (items rest : Lexemes) (last : State) (left : List Bytes) → IsBetween last → notes_good (items ++ rest) ≡ true → list_all is_bare rest ≡ true
    → run limit Start [] (items ++ rest) ≡ Read last left → GoesOn items
ended limit items rest (Between head) left p good bare read =
    let tree : Interface = record { notes = head.notes; name = head.name; members = head.members; tail = left } in
    let is = tree_of limit (items ++ rest) tree (subst (λ (r : Reading). OnReading (WholeRun limit Start [] (items ++ rest)) r) read (run_whole limit Start [] (items ++ rest) tt refl good)) in
    (rest, tree, bare, is.form, is.settled)
ended limit items rest Start left p good bare read = absurd p
ended limit items rest (Headed notes) left p good bare read = absurd p
ended limit items rest (Keyed head notes keyword) left p good bare read = absurd p
ended limit items rest (Ready head m) left p good bare read = absurd p
ended limit items rest (Middle head notes name input) left p good bare read = absurd p
ended limit items rest (Inside head m levels at) left p good bare read = absurd p

pub front_goes : (items : Lexemes) → notes_good items ≡ true → Front definition (without_notes items) → GoesOn items
front_goes items good front =
    let c = completed definition (without_notes items) front good_definition in
    let all = items ++ c.rest in
    let limit = suc (length all) in
    let bare = all_bare c.rest c.bare in
    let all_good : notes_good all ≡ true = list_all-append note_good items c.rest ∙ and_from (notes_good items) (notes_good c.rest) good (bare_good c.rest bare) in
    let same : without_notes all ≡ without_notes items ++ c.rest = bare_append items c.rest ∙ ap (λ (x : Lexemes). without_notes items ++ x) c.bare in
    let end = ap (λ (x : Lexemes). run limit Start [] x) (append-nil all) in
    elim (definition_passes limit (suc (length (without_notes items ++ c.rest))) (without_notes items ++ c.rest) c.spelled (omega arith) all same [] []) [
      | inl far ↦ absurd (near limit all all_good (omega arith) (sym end ∙ far))
      | inr (last, left, p, e) ↦ ended limit items c.rest last left p all_good bare (sym end ∙ e)
    ]

pub goes_front : (items : Lexemes) → GoesOn items → Front definition (without_notes items)
goes_front items (rest, tree, bare, form, settles) =
    let same : without_notes (Items tree) ≡ without_notes items ++ without_notes rest =
    ap without_notes (sym settles) ∙ bare_settled outside [] (items ++ rest) ∙ bare_append items rest in
    beginning definition (without_notes (Items tree)) (definition_whole tree form) (without_notes items) (without_notes rest) same
