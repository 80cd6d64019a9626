-- what the reading of a text tells of the trees that it spells
use Rattle.std.proofs.Common.{◌≡◌, ℕ, ◌≤◌, max, Bool, true, ◌&&◌, cond, ltb, List, [], ◌∷◌, Option, Some, None, length, refl, sym, ap, subst, ◌∙◌, arith, inl, inr, ◌⊎◌}
use Rattle.std.specs.List.{list_all}
use Rattle.idl_tree.specs.Names.{is_interface_name}
use Rattle.std.proofs.lemmas.Bool.{and_from, ltb-true, lt-ltb}
use Rattle.idl_token.specs.Lex.{Bytes, Lexeme, Lexemes, Lex}
use Rattle.idl_token.specs.declared.tokens.ItemKind.TheVariants.{Word, Mark, Note}
use Rattle.idl_token.proofs.OneList.{one_lex}
use Rattle.idl_tree.specs.declared.trees.Interface.{Interface}
use Rattle.idl_tree.specs.Form.{Form, Deep, are_notes, member_form}
use Rattle.idl_rules.specs.Items.{Items}
use Rattle.idl_rules.specs.Settle.{Settle, is_slot}
use Rattle.idl_rules.specs.Spells.{Spells}
use Rattle.idl_rules.specs.Reading.{Next, Going, Stray, Beyond, Reading, Strayed, TooFar, run, whole, then_read, slot_next, plain_next, mark_next, sign_next, open_inner, opened, mark_of, here, notes_good}
use Rattle.idl_rules.specs.declared.states.State.{State}
use Rattle.idl_rules.specs.declared.states.State.TheVariants.{Start, Between, Ready, Inside}
use Rattle.idl_rules.specs.declared.states.Head.{Head}
use Rattle.idl_rules.specs.declared.states.Begun.{Begun}
use Rattle.idl_rules.specs.declared.states.Level.{Level}
use Rattle.idl_rules.specs.declared.states.Spot.{Spot}
use Rattle.idl_rules.specs.declared.states.Spot.TheVariants as spot
use Rattle.idl_rules.specs.declared.states.Mark.{Mark as Sign}
use Rattle.idl_rules.specs.declared.states.Mark.TheVariants.{Open}
use Rattle.idl_rules.proofs.Runs.{OnReading, Whole, run_whole, run_settled, by_bool}
use Rattle.idl_rules.proofs.Texts.{begun_good}
use Rattle.idl_rules.proofs.Trees.{reads}

-- with more room nothing changes but what was too deep
abbrev pub Larger : Next → Next → Type 0
Larger small large = (small ≡ Beyond) ⊎ (small ≡ large)

opened_larger : (small large : ℕ) (head : Head) (member : Begun) (levels : List Level) → small ≤ large → Larger (opened small head member levels) (opened large head member levels)
opened_larger small large head member levels h =
    let inside = Going (Inside head member levels spot.First) in
    by_bool (λ (b : Bool). ltb (length levels) small ≡ b → Larger (cond b inside Beyond) (opened large head member levels)) (ltb (length levels) small)
    (λ e again. let below = ltb-true (length levels) small e in
    inr (sym (ap (λ (b : Bool). cond b inside Beyond) (lt-ltb (length levels) large (omega arith)))))
    (λ e again. inl refl) refl

inner_larger : (small large : ℕ) (head : Head) (member : Begun) (levels : List Level) (at : Spot) → small ≤ large
    → Larger (open_inner small head member levels at) (open_inner large head member levels at)
inner_larger small large head member levels (spot.Prefixes level) h = opened_larger small large head member (level ∷ levels) h
inner_larger small large head member levels at h = inr refl

sign_larger : (small large : ℕ) (state : State) (sign : Sign) → small ≤ large → Larger (sign_next small state sign) (sign_next large state sign)
sign_larger small large (Ready head member) Open h = opened_larger small large head member [] h
sign_larger small large (Inside head member levels at) Open h = inner_larger small large head member levels at h
sign_larger small large state sign h = inr refl

mark_larger : (small large : ℕ) (state : State) (sign : Option Sign) → small ≤ large → Larger (mark_next small state sign) (mark_next large state sign)
mark_larger small large state None h = inr refl
mark_larger small large state (Some sign) h = sign_larger small large state sign h

pub plain_larger : (small large : ℕ) (state : State) (item : Lexeme) → small ≤ large → Larger (plain_next small state item) (plain_next large state item)
plain_larger small large state (Word, w) h = inr refl
plain_larger small large state (Mark, spelling) h = mark_larger small large state (mark_of spelling) h
plain_larger small large state (Note, spelling) h = inr refl

abbrev pub LargerRun : Reading → Reading → Type 0
LargerRun small large = (small ≡ TooFar) ⊎ (small ≡ large)

module _ (small large : ℕ) (h : small ≤ large) (items : Lexemes) where
  then_larger : (one other : Next) (waiting : List Bytes) → Larger one other
      → ((s : State) (w : List Bytes) → LargerRun (run small s w items) (run large s w items))
      → LargerRun (then_read one (λ s. run small s waiting items)) (then_read other (λ s. run large s waiting items))
  then_larger (Going state) other waiting (inl e) ih = let no : ◌≡◌ {A = Next} (Going state) Beyond = e in absurd (cc)
  then_larger Stray other waiting (inl e) ih = let no : ◌≡◌ {A = Next} Stray Beyond = e in absurd (cc)
  then_larger Beyond other waiting (inl e) ih = inl refl
  then_larger (Going state) other waiting (inr e) ih =
      subst (λ (n : Next). LargerRun (run small state waiting items) (then_read n (λ s. run large s waiting items))) e (ih state waiting)
  then_larger Stray other waiting (inr e) ih =
      subst (λ (n : Next). LargerRun Strayed (then_read n (λ s. run large s waiting items))) e (inr refl)
  then_larger Beyond other waiting (inr e) ih = inl refl

  item_larger : (state : State) (waiting : List Bytes) (item : Lexeme)
      → ((s : State) (w : List Bytes) → LargerRun (run small s w items) (run large s w items))
      → LargerRun
      (cond (is_slot (here state) item) (then_read (slot_next state waiting item) (λ next. run small next [] items)) (then_read (plain_next small state item) (λ next. run small next waiting items)))
      (cond (is_slot (here state) item) (then_read (slot_next state waiting item) (λ next. run large next [] items)) (then_read (plain_next large state item) (λ next. run large next waiting items)))
  item_larger state waiting item ih =
      by_bool (λ (b : Bool). LargerRun
      (cond b (then_read (slot_next state waiting item) (λ next. run small next [] items)) (then_read (plain_next small state item) (λ next. run small next waiting items)))
      (cond b (then_read (slot_next state waiting item) (λ next. run large next [] items)) (then_read (plain_next large state item) (λ next. run large next waiting items))))
      (is_slot (here state) item)
      (λ e. then_larger (slot_next state waiting item) (slot_next state waiting item) [] (inr refl) ih)
      (λ e. then_larger (plain_next small state item) (plain_next large state item) waiting (plain_larger small large state item h) ih)

pub run_larger : (small large : ℕ) → small ≤ large → (state : State) (waiting : List Bytes) (items : Lexemes)
    → LargerRun (run small state waiting items) (run large state waiting items)
run_larger small large h state waiting [] = inr refl
run_larger small large h state waiting ((Note, spelling) ∷ items) = run_larger small large h state _ items
run_larger small large h state waiting ((Word, w) ∷ items) = item_larger small large h items state waiting (Word, w) (λ s ws. run_larger small large h s ws items)
run_larger small large h state waiting ((Mark, w) ∷ items) = item_larger small large h items state waiting (Mark, w) (λ s ws. run_larger small large h s ws items)

pub lex_good : (items : Lexemes) (text : Bytes) → Lex items text → notes_good items ≡ true
lex_good items text lex = begun_good items text lex.1.0 lex.0 lex.1.1

-- the items of a text that spells a tree are read as that tree, where the limit allows
pub spelled_read : (limit : ℕ) (items : Lexemes) (text : Bytes) (tree : Interface) → Lex items text → Spells tree text → Deep tree ≤ limit
    → run limit Start [] items ≡ whole tree
spelled_read limit items text tree lex spells within =
    let same : items ≡ spells.1.0 = one_lex items spells.1.0 text lex spells.1.1 in
    run_settled limit Start [] items tt refl (lex_good items text lex)
    ∙ ap (λ (x : Lexemes). run limit Start [] x) (ap Settle same ∙ spells.1.2)
    ∙ reads limit tree spells.0 within

-- in any case they are read as that tree or are too deep
pub spelled_reading : (limit : ℕ) (items : Lexemes) (text : Bytes) (tree : Interface) → Lex items text → Spells tree text
    → (run limit Start [] items ≡ TooFar) ⊎ (run limit Start [] items ≡ whole tree)
spelled_reading limit items text tree lex spells =
    let large = max limit (Deep tree) in
    let read = spelled_read large items text tree lex spells (omega arith) in
    elim (run_larger limit large (omega arith) Start [] items) [
      | inl far ↦ inl far
      | inr same ↦ inr (same ∙ read)
    ]

-- what was read as a tree spells it
pub record IsRead (limit : ℕ) (items : Lexemes) (tree : Interface) : Type 0 where
  pub form : Form tree
  pub within : Deep tree ≤ limit
  pub settled : Settle items ≡ Items tree

pub tree_of : (limit : ℕ) (items : Lexemes) (tree : Interface) → OnReading (Whole limit Start [] items) (whole tree) → IsRead limit items tree
tree_of limit items tree (sound, noted, settles) = record {
  form = and_from (are_notes tree.notes && is_interface_name tree.name && list_all member_form tree.members) (are_notes tree.tail)
      (and_from (are_notes tree.notes && is_interface_name tree.name) (list_all member_form tree.members)
      (and_from (are_notes tree.notes) (is_interface_name tree.name) sound.notes sound.name) sound.members) noted;
  within = sound.within;
  settled = settles;
}

pub read_tree : (limit : ℕ) (items : Lexemes) (text : Bytes) (tree : Interface) → Lex items text → run limit Start [] items ≡ whole tree → IsRead limit items tree
read_tree limit items text tree lex e =
    tree_of limit items tree (subst (λ (r : Reading). OnReading (Whole limit Start [] items) r) e (run_whole limit Start [] items tt refl (lex_good items text lex)))

pub whole_one : (tree other : Interface) → whole tree ≡ whole other → tree ≡ other
whole_one tree other e =
    let head : ◌≡◌ {A = State} (Between (record { notes = tree.notes; name = tree.name; members = tree.members })) (Between (record { notes = other.notes; name = other.name; members = other.members })) = cc in
    let fields : ◌≡◌ {A = Head} (record { notes = tree.notes; name = tree.name; members = tree.members }) (record { notes = other.notes; name = other.name; members = other.members }) = cc in
    let tail : tree.tail ≡ other.tail = cc in
    let name : tree.name ≡ other.name = ap (λ (h : Head). h.name) fields in
    let notes : tree.notes ≡ other.notes = ap (λ (h : Head). h.notes) fields in
    let members : tree.members ≡ other.members = ap (λ (h : Head). h.members) fields in
    λ i. record { notes = notes i; name = name i; members = members i; tail = tail i }

pub one_tree : (text : Bytes) (tree other : Interface) → Spells tree text → Spells other text → tree ≡ other
one_tree text tree other spells spells' =
    let large = max (Deep tree) (Deep other) in
    let one = spelled_read large spells.1.0 text tree spells.1.1 spells (omega arith) in
    let two = spelled_read large spells.1.0 text other spells.1.1 spells' (omega arith) in
    whole_one tree other (sym one ∙ two)
