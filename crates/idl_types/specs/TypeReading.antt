-- How one type is read, one item after another: as that of the first field of a bracket.
use Rattle.std.specs.Prelude.{ℕ, suc, Bool, true, false, [], ◌∷◌, Option, Some, None, if◌then◌else◌, codes}
use Rattle.idl_token.specs.Lex.{Lexeme, Lexemes}
use Rattle.idl_token.specs.declared.tokens.ItemKind.TheVariants.{Note}
use Rattle.idl_tree.specs.declared.trees.TypeRef.{TypeRef}
use Rattle.idl_rules.specs.Settle.{is_slot}
use Rattle.idl_rules.specs.Reading.{Next, Stray, Reading, Read, here, slot_next, plain_next, then_read}
use Rattle.idl_rules.specs.declared.states.State.{State}
use Rattle.idl_rules.specs.declared.states.State.TheVariants.{Inside}
use Rattle.idl_rules.specs.declared.states.Head.{Head}
use Rattle.idl_rules.specs.declared.states.Begun.{Begun}
use Rattle.idl_rules.specs.declared.states.Level.{Level}
use Rattle.idl_rules.specs.declared.states.Kind.TheVariants.{Shape}
use Rattle.idl_rules.specs.declared.states.Spot.TheVariants as spot

abbrev pub outer_head : Head
outer_head = record { notes = []; name = codes "a.b"; members = [] }

abbrev pub outer_member : Begun
outer_member = record { notes = []; name = codes "A"; kind = Shape }

abbrev pub outer_level : Level
outer_level = record { fields = []; notes = []; name = codes "a"; prefixes = [] }

-- behind `interface a.b type A (a:`
abbrev pub at_type : State
at_type = Inside outer_head outer_member [] (spot.Prefixes outer_level)

-- the type that was read, where it is whole
abbrev pub type_read : State → Option TypeRef
type_read (Inside head member [] (spot.Fields (field ∷ []))) = Some field.of
type_read state = None

abbrev pub is_whole_type : State → Bool
is_whole_type (Inside head member [] (spot.Fields fields)) = true
is_whole_type state = false

-- what an item does: no type goes on with a note, nor with any item behind a whole one; the bracket
-- outside the type does not count
abbrev pub type_next : ℕ → State → Lexeme → Next
type_next limit state (Note, spelling) = Stray
type_next limit state item = if is_whole_type state then Stray
    else (if is_slot (here state) item then slot_next state [] item else plain_next (suc limit) state item)

-- the reading of items, with at most `limit` brackets open
abbrev pub type_run : ℕ → State → Lexemes → Reading
type_run limit state [] = Read state []
type_run limit state (item ∷ items) =
    then_read (type_next limit state item) (λ next. type_run limit next items)
