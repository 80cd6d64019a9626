-- the states in which a type is read, and what an item does to them
use Rattle.std.proofs.Common.{◌≡◌, ℕ, suc, Bool, true, false, not, cond, ltb, List, [], ◌∷◌, ◌++◌, Option, Some, None, length, codes, refl, sym, ap}
use Rattle.std.proofs.lemmas.Bool.{true≢false}
use Rattle.std.specs.Str.{bytes_eq}
use Rattle.idl_token.specs.Lex.{Bytes, Lexeme}
use Rattle.idl_token.specs.declared.tokens.ItemKind.TheVariants.{Word, Mark, Note}
use Rattle.idl_tree.specs.declared.trees.Field.{Field}
use Rattle.idl_tree.specs.declared.trees.TypeRef.{TypeRef}
use Rattle.idl_tree.specs.declared.trees.Core.{Core}
use Rattle.idl_tree.specs.declared.trees.Body.{Body}
use Rattle.idl_tree.specs.declared.trees.Body.TheVariants.{Inline}
use Rattle.idl_tree.specs.declared.trees.Prefix.{Prefix}
use Rattle.idl_tree.specs.declared.trees.Prefix.TheVariants.{Array, Map, Maybe}
use Rattle.idl_rules.specs.Settle.{is_slot}
use Rattle.idl_rules.specs.Reading.{Next, Going, Beyond, here, some_if, inside_next, opened, close_next, with_prefix, with_core, takes_enum, ends_with_maybe, core_of, mark_of, entry_spot, body_of, slot_next, cored, type_word, mark_spot, open_inner, mark_next, plain_next}
use Rattle.idl_rules.specs.declared.states.State.{State}
use Rattle.idl_rules.specs.declared.states.State.TheVariants.{Start, Headed, Between, Keyed, Ready, Middle, Inside}
use Rattle.idl_rules.specs.declared.states.Head.{Head}
use Rattle.idl_rules.specs.declared.states.Begun.{Begun}
use Rattle.idl_rules.specs.declared.states.Level.{Level}
use Rattle.idl_rules.specs.declared.states.Spot.{Spot}
use Rattle.idl_rules.specs.declared.states.Spot.TheVariants as spot
use Rattle.idl_rules.specs.declared.states.Mark.{Mark as Sign}
use Rattle.idl_rules.specs.declared.states.Mark.TheVariants.{Open, Close, Comma, Colon, Question, LeftSquare, RightSquare, Arrow}
use Rattle.idl_rules.proofs.Spelled.{OnNext}
use Rattle.idl_rules.proofs.Runs.{by_bool}
use Rattle.idl_types.specs.TypeReading.{outer_head, outer_member, at_type, type_read, is_whole_type}

-- the field whose type is read
abbrev pub level_of : List Prefix → Level
level_of prefixes = record { fields = []; notes = []; name = codes "a"; prefixes = prefixes }

abbrev pub field_of : TypeRef → Field
field_of of = record { notes = []; name = codes "a"; of = of }

-- behind the whole type
abbrev pub whole_at : TypeRef → State
whole_at of = Inside outer_head outer_member [] (spot.Fields (field_of of ∷ []))

abbrev pub IsOuter : Level → Type 0
IsOuter level = (prefixes : List Prefix) × (level ≡ level_of prefixes)

-- so is the outermost level
abbrev pub Outermost : List Level → Type 0
Outermost [] = ⊥
Outermost (level ∷ []) = IsOuter level
Outermost (level ∷ next ∷ levels) = Outermost (next ∷ levels)

abbrev pub Place : List Level → Spot → Type 0
Place [] (spot.Fields fields) = (of : TypeRef) × (fields ≡ field_of of ∷ [])
Place [] (spot.Prefixes level) = IsOuter level
Place [] (spot.Square level) = IsOuter level
Place [] (spot.Map level) = IsOuter level
Place [] at = ⊥
Place (level ∷ levels) at = Outermost (level ∷ levels)

abbrev pub InType : State → Type 0
InType (Inside head member levels at) = (head ≡ outer_head) × (member ≡ outer_member) × Place levels at
InType state = ⊥

pub begins_placed : InType at_type
begins_placed = (refl, refl, ([], refl))

pub prefix_outer : (level : Level) (prefix : Prefix) → IsOuter level → IsOuter (with_prefix level prefix)
prefix_outer level prefix (prefixes, e) = (
  prefixes ++ prefix ∷ [],
  ap (λ (l : Level). with_prefix l prefix) e,
)

pub core_outer : (level : Level) (core : Core) → IsOuter level
    → (of : TypeRef) × (with_core level core ≡ field_of of ∷ [])
core_outer level core (prefixes, e) = (
  record { prefixes = prefixes; core = core },
  ap (λ (l : Level). with_core l core) e,
)

-- a core ends the field, be it the outermost one or not
pub core_placed : (levels : List Level) (level : Level) (core : Core) → Place levels (spot.Prefixes level)
    → Place levels (spot.Fields (with_core level core))
core_placed [] level core p = core_outer level core p
core_placed (next ∷ levels) level core p = p

pub close_placed : (level : Level) (levels : List Level) (core : Core) → Outermost (level ∷ levels)
    → Place levels (spot.Fields (with_core level core))
close_placed level [] core p = core_outer level core p
close_placed level (next ∷ levels) core p = p

module _ (head : Head) (member : Begun) (h : head ≡ outer_head) (m : member ≡ outer_member) where
  -- within an inner bracket
  inner_placed : (level : Level) (levels : List Level) (at : Option Spot) → Outermost (level ∷ levels)
      → OnNext InType (inside_next head member (level ∷ levels) at)
  inner_placed level levels None p = tt
  inner_placed level levels (Some at) p = (h, m, p)

  if_placed : (levels : List Level) (test : Bool) (at : Spot) → Place levels at
      → OnNext InType (inside_next head member levels (some_if test at))
  if_placed levels true at p = (h, m, p)
  if_placed levels false at p = tt

  entry_placed : (levels : List Level) (at : Spot) (w : Bytes) → Place levels at
      → OnNext InType (inside_next head member levels (entry_spot at [] w))
  entry_placed (level ∷ levels) at w p = inner_placed level levels (entry_spot at [] w) p
  entry_placed [] (spot.Fields fields) w p = tt
  entry_placed [] (spot.Prefixes level) w p = tt
  entry_placed [] (spot.Square level) w p = tt
  entry_placed [] (spot.Map level) w p = tt
  entry_placed [] spot.First w p = absurd p
  entry_placed [] (spot.Only x) w p = absurd p
  entry_placed [] (spot.Names x) w p = absurd p
  entry_placed [] (spot.MoreNames x) w p = absurd p
  entry_placed [] (spot.MoreFields x) w p = absurd p
  entry_placed [] (spot.Field x) w p = absurd p

  body_placed : (level : Level) (levels : List Level) (body : Option Body) → Outermost (level ∷ levels)
      → OnNext InType (close_next head member (level ∷ levels) body)
  body_placed level levels None p = tt
  body_placed level levels (Some body) p = (h, m, close_placed level levels (Inline body) p)

  bracket_placed : (levels : List Level) (at : Spot) → Place levels at
      → is_whole_type (Inside head member levels at) ≡ false
      → OnNext InType (close_next head member levels (body_of (takes_enum member.kind levels) at []))
  bracket_placed (level ∷ levels) at p partly =
      body_placed level levels (body_of (takes_enum member.kind (level ∷ levels)) at []) p
  bracket_placed [] (spot.Fields fields) p partly = absurd (true≢false partly)
  bracket_placed [] (spot.Prefixes level) p partly = tt
  bracket_placed [] (spot.Square level) p partly = tt
  bracket_placed [] (spot.Map level) p partly = tt
  bracket_placed [] spot.First p partly = absurd p
  bracket_placed [] (spot.Only x) p partly = absurd p
  bracket_placed [] (spot.Names x) p partly = absurd p
  bracket_placed [] (spot.MoreNames x) p partly = absurd p
  bracket_placed [] (spot.MoreFields x) p partly = absurd p
  bracket_placed [] (spot.Field x) p partly = absurd p

  cored_placed : (level : Level) (core : Option Core) → IsOuter level
      → OnNext InType (inside_next head member [] (cored level core))
  cored_placed level None p = tt
  cored_placed level (Some core) p = (h, m, core_outer level core p)

  word_placed : (levels : List Level) (at : Spot) (w : Bytes) → Place levels at
      → OnNext InType (inside_next head member levels (type_word at w))
  word_placed (level ∷ levels) at w p = inner_placed level levels (type_word at w) p
  word_placed [] (spot.Prefixes level) w p = cored_placed level (core_of w) p
  word_placed [] (spot.Square level) w p = if_placed [] (bytes_eq w (codes "string")) (spot.Map level) p
  word_placed [] (spot.Map level) w p = tt
  word_placed [] (spot.Fields fields) w p = tt
  word_placed [] spot.First w p = absurd p
  word_placed [] (spot.Only x) w p = absurd p
  word_placed [] (spot.Names x) w p = absurd p
  word_placed [] (spot.MoreNames x) w p = absurd p
  word_placed [] (spot.MoreFields x) w p = absurd p
  word_placed [] (spot.Field x) w p = absurd p

  opened_placed : (limit : ℕ) (level : Level) (levels : List Level) → Outermost (level ∷ levels)
      → OnNext InType (opened limit head member (level ∷ levels))
  opened_placed limit level levels p =
      by_bool (λ (b : Bool). OnNext InType (cond b (Going (Inside head member (level ∷ levels) spot.First))
      Beyond)) (ltb (length (level ∷ levels)) limit)
      (λ e. (h, m, p)) (λ e. tt)

  open_placed : (limit : ℕ) (levels : List Level) (at : Spot) → Place levels at
      → OnNext InType (open_inner limit head member levels at)
  open_placed limit [] (spot.Prefixes level) p = opened_placed limit level [] p
  open_placed limit (next ∷ levels) (spot.Prefixes level) p = opened_placed limit level (next ∷ levels) p
  open_placed limit levels at p = tt

  mark_placed : (levels : List Level) (at : Spot) (sign : Sign) → Place levels at
      → is_whole_type (Inside head member levels at) ≡ false
      → OnNext InType (inside_next head member levels (mark_spot (takes_enum member.kind levels) at sign))
  mark_placed (level ∷ levels) at sign p partly =
      inner_placed level levels (mark_spot (takes_enum member.kind (level ∷ levels)) at sign) p
  mark_placed [] (spot.Fields fields) sign p partly = absurd (true≢false partly)
  mark_placed [] (spot.Prefixes level) Question p partly =
      if_placed [] (not (ends_with_maybe level.prefixes)) (spot.Prefixes (with_prefix level Maybe))
      (prefix_outer level Maybe p)
  mark_placed [] (spot.Prefixes level) LeftSquare p partly = (h, m, p)
  mark_placed [] (spot.Prefixes level) sign p partly = tt
  mark_placed [] (spot.Square level) RightSquare p partly = (h, m, prefix_outer level Array p)
  mark_placed [] (spot.Square level) sign p partly = tt
  mark_placed [] (spot.Map level) RightSquare p partly = (h, m, prefix_outer level Map p)
  mark_placed [] (spot.Map level) sign p partly = tt
  mark_placed [] spot.First sign p partly = absurd p
  mark_placed [] (spot.Only x) sign p partly = absurd p
  mark_placed [] (spot.Names x) sign p partly = absurd p
  mark_placed [] (spot.MoreNames x) sign p partly = absurd p
  mark_placed [] (spot.MoreFields x) sign p partly = absurd p
  mark_placed [] (spot.Field x) sign p partly = absurd p

  sign_placed : (limit : ℕ) (levels : List Level) (at : Spot) (sign : Option Sign) → Place levels at
      → is_whole_type (Inside head member levels at) ≡ false
      → OnNext InType (mark_next limit (Inside head member levels at) sign)
  sign_placed limit levels at None p partly = tt
  sign_placed limit levels at (Some Open) p partly = open_placed limit levels at p
  sign_placed limit levels at (Some Close) p partly = mark_placed levels at Close p partly
  sign_placed limit levels at (Some Comma) p partly = mark_placed levels at Comma p partly
  sign_placed limit levels at (Some Colon) p partly = mark_placed levels at Colon p partly
  sign_placed limit levels at (Some Question) p partly = mark_placed levels at Question p partly
  sign_placed limit levels at (Some LeftSquare) p partly = mark_placed levels at LeftSquare p partly
  sign_placed limit levels at (Some RightSquare) p partly = mark_placed levels at RightSquare p partly
  sign_placed limit levels at (Some Arrow) p partly = mark_placed levels at Arrow p partly

-- what an item does where no type is whole yet
abbrev pub step : ℕ → State → Lexeme → Next
step limit state item = cond (is_slot (here state) item) (slot_next state [] item)
    (plain_next (suc limit) state item)

slot_placed : (state : State) (item : Lexeme) → InType state → is_whole_type state ≡ false
    → OnNext InType (slot_next state [] item)
slot_placed (Inside head member levels at) (Word, w) (h, m, p) partly =
    entry_placed head member h m levels at w p
slot_placed (Inside head member levels at) (Mark, w) (h, m, p) partly =
    bracket_placed head member h m levels at p partly
slot_placed state (Note, w) p partly = tt
slot_placed Start item p partly = absurd p
slot_placed (Headed notes) item p partly = absurd p
slot_placed (Between head) item p partly = absurd p
slot_placed (Keyed head notes keyword) item p partly = absurd p
slot_placed (Ready head member) item p partly = absurd p
slot_placed (Middle head notes name input) item p partly = absurd p

plain_placed : (limit : ℕ) (state : State) (item : Lexeme) → InType state → is_whole_type state ≡ false
    → OnNext InType (plain_next limit state item)
plain_placed limit (Inside head member levels at) (Word, w) (h, m, p) partly =
    word_placed head member h m levels at w p
plain_placed limit (Inside head member levels at) (Mark, w) (h, m, p) partly =
    sign_placed head member h m limit levels at (mark_of w) p partly
plain_placed limit state (Note, w) p partly = tt
plain_placed limit Start item p partly = absurd p
plain_placed limit (Headed notes) item p partly = absurd p
plain_placed limit (Between head) item p partly = absurd p
plain_placed limit (Keyed head notes keyword) item p partly = absurd p
plain_placed limit (Ready head member) item p partly = absurd p
plain_placed limit (Middle head notes name input) item p partly = absurd p

pub step_placed : (limit : ℕ) (state : State) (item : Lexeme) → InType state → is_whole_type state ≡ false
    → OnNext InType (step limit state item)
step_placed limit state item p partly =
    by_bool (λ (b : Bool). OnNext InType (cond b (slot_next state [] item)
    (plain_next (suc limit) state item))) (is_slot (here state) item)
    (λ e. slot_placed state item p partly) (λ e. plain_placed (suc limit) state item p partly)

-- a whole type is that of the one field
pub inside_path : (head : Head) (member : Begun) (fields : List Field) (of : TypeRef) → head ≡ outer_head
    → member ≡ outer_member → fields ≡ field_of of ∷ []
    → Inside head member [] (spot.Fields fields) ≡ whole_at of
inside_path head member fields of h m e = λ i. Inside (h i) (m i) [] (spot.Fields (e i))

pub whole_placed : (state : State) → InType state → is_whole_type state ≡ true
    → (of : TypeRef) × (state ≡ whole_at of)
whole_placed (Inside head member [] (spot.Fields fields)) (h, m, (of, e)) whole =
    (of, inside_path head member fields of h m e)
whole_placed (Inside head member [] (spot.Prefixes level)) p whole = absurd (true≢false (sym whole))
whole_placed (Inside head member [] (spot.Square level)) p whole = absurd (true≢false (sym whole))
whole_placed (Inside head member [] (spot.Map level)) p whole = absurd (true≢false (sym whole))
whole_placed (Inside head member [] spot.First) p whole = absurd p.2
whole_placed (Inside head member [] (spot.Only x)) p whole = absurd p.2
whole_placed (Inside head member [] (spot.Names x)) p whole = absurd p.2
whole_placed (Inside head member [] (spot.MoreNames x)) p whole = absurd p.2
whole_placed (Inside head member [] (spot.MoreFields x)) p whole = absurd p.2
whole_placed (Inside head member [] (spot.Field x)) p whole = absurd p.2
whole_placed (Inside head member (level ∷ levels) at) p whole = absurd (true≢false (sym whole))
whole_placed Start p whole = absurd p
whole_placed (Headed notes) p whole = absurd p
whole_placed (Between head) p whole = absurd p
whole_placed (Keyed head notes keyword) p whole = absurd p
whole_placed (Ready head member) p whole = absurd p
whole_placed (Middle head notes name input) p whole = absurd p

none_read : (of : TypeRef) → ◌≡◌ {A = Option TypeRef} None (Some of) → ⊥
none_read of e = absurd (cc)

-- what was read is whole
pub read_whole : (state : State) (of : TypeRef) → type_read state ≡ Some of → is_whole_type state ≡ true
read_whole (Inside head member [] (spot.Fields fields)) of e = refl
read_whole (Inside head member [] (spot.Prefixes level)) of e = absurd (none_read of e)
read_whole (Inside head member [] (spot.Square level)) of e = absurd (none_read of e)
read_whole (Inside head member [] (spot.Map level)) of e = absurd (none_read of e)
read_whole (Inside head member [] spot.First) of e = absurd (none_read of e)
read_whole (Inside head member [] (spot.Only x)) of e = absurd (none_read of e)
read_whole (Inside head member [] (spot.Names x)) of e = absurd (none_read of e)
read_whole (Inside head member [] (spot.MoreNames x)) of e = absurd (none_read of e)
read_whole (Inside head member [] (spot.MoreFields x)) of e = absurd (none_read of e)
read_whole (Inside head member [] (spot.Field x)) of e = absurd (none_read of e)
read_whole (Inside head member (level ∷ levels) at) of e = absurd (none_read of e)
read_whole Start of e = absurd (none_read of e)
read_whole (Headed notes) of e = absurd (none_read of e)
read_whole (Between head) of e = absurd (none_read of e)
read_whole (Keyed head notes keyword) of e = absurd (none_read of e)
read_whole (Ready head member) of e = absurd (none_read of e)
read_whole (Middle head notes name input) of e = absurd (none_read of e)
