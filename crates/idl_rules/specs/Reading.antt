-- How a definition is read, one item after another: what each item does to what was read so far.
use Rattle.std.specs.Prelude.{ℕ, suc, Bool, true, false, ◌&&◌, ◌==◌, not, nat_lt, List, [], ◌∷◌, ◌++◌, length, Option, Some, None, if◌then◌else◌, codes}
use Rattle.std.specs.List.{list_all}
use Rattle.std.specs.Str.{bytes_eq}
use Rattle.idl_tree.specs.Form.{is_note}
use Rattle.idl_token.specs.Lex.{Bytes, Lexeme, Lexemes}
use Rattle.idl_token.specs.declared.tokens.ItemKind.TheVariants.{Word, Mark, Note}
use Rattle.idl_tree.specs.Names.{is_interface_name, is_member_name, is_field_name}
use Rattle.idl_tree.specs.declared.trees.Interface.{Interface}
use Rattle.idl_tree.specs.declared.trees.Field.{Field}
use Rattle.idl_tree.specs.declared.trees.Core.{Core}
use Rattle.idl_tree.specs.declared.trees.Body.{Body}
use Rattle.idl_tree.specs.declared.trees.Body.TheVariants.{Struct, Enum, Bool as BoolCore, Int, Float, Str, Object, Name, Inline}
use Rattle.idl_tree.specs.declared.trees.Prefix.{Prefix}
use Rattle.idl_tree.specs.declared.trees.Prefix.TheVariants.{Array, Map, Maybe}
use Rattle.idl_tree.specs.declared.trees.Part.{Part}
use Rattle.idl_tree.specs.declared.trees.Part.TheVariants as part
use Rattle.idl_rules.specs.Settle.{Here, outside, is_slot, note_text}
use Rattle.idl_rules.specs.declared.states.State.{State}
use Rattle.idl_rules.specs.declared.states.State.TheVariants.{Start, Headed, Between, Keyed, Ready, Middle, Inside}
use Rattle.idl_rules.specs.declared.states.Head.{Head}
use Rattle.idl_rules.specs.declared.states.Begun.{Begun}
use Rattle.idl_rules.specs.declared.states.Level.{Level}
use Rattle.idl_rules.specs.declared.states.Kind.{Kind}
use Rattle.idl_rules.specs.declared.states.Kind.TheVariants.{Shape, Input, Output, Fault}
use Rattle.idl_rules.specs.declared.states.Keyword.{Keyword}
use Rattle.idl_rules.specs.declared.states.Keyword.TheVariants.{Types, Methods, Errors}
use Rattle.idl_rules.specs.declared.states.Spot.{Spot}
use Rattle.idl_rules.specs.declared.states.Spot.TheVariants as spot
use Rattle.idl_rules.specs.declared.states.Mark.{Mark as Sign}
use Rattle.idl_rules.specs.declared.states.Mark.TheVariants.{Open, Close, Comma, Colon, Question, LeftSquare, RightSquare, Arrow}

-- what an item does: it goes on, no definition goes on with it, or it is a bracket that is too deep
pub data Next : Type 0 where
  Going : State → Next
  Stray : Next
  Beyond : Next

-- what items do, with the notes whose slot is to come
pub data Reading : Type 0 where
  Read : State → List Bytes → Reading
  Strayed : Reading
  TooFar : Reading

-- the mark of this spelling
abbrev pub one_mark : ℕ → Option Sign
one_mark b = if b == 40 then Some Open else (if b == 41 then Some Close else (if b == 44 then Some Comma
    else (if b == 58 then Some Colon else (if b == 63 then Some Question else (if b == 91 then Some LeftSquare
    else (if b == 93 then Some RightSquare else None))))))

abbrev pub mark_of : Bytes → Option Sign
mark_of (b ∷ []) = one_mark b
mark_of (b ∷ c ∷ []) = if b == 45 && c == 62 then Some Arrow else None
mark_of spelling = None

-- the word that begins a member
abbrev pub keyword_of : Bytes → Option Keyword
keyword_of w = if bytes_eq w (codes "type") then Some Types else (if bytes_eq w (codes "method") then Some Methods
    else (if bytes_eq w (codes "error") then Some Errors else None))

-- the type that is one word
abbrev pub core_of : Bytes → Option Core
core_of w = if bytes_eq w (codes "bool") then Some BoolCore else (if bytes_eq w (codes "int") then Some Int
    else (if bytes_eq w (codes "float") then Some Float else (if bytes_eq w (codes "string") then Some Str
    else (if bytes_eq w (codes "object") then Some Object else (if is_member_name w then Some (Name w) else None)))))

abbrev pub kind_of : Keyword → Kind
kind_of Types = Shape
kind_of Methods = Input
kind_of Errors = Fault

abbrev pub is_maybe : Prefix → Bool
is_maybe Maybe = true
is_maybe prefix = false

abbrev pub ends_with_maybe : List Prefix → Bool
ends_with_maybe [] = false
ends_with_maybe (Maybe ∷ []) = true
ends_with_maybe (prefix ∷ prefixes) = ends_with_maybe prefixes

-- whether an enum may stand in the innermost bracket: not as the bracket of a method or an error
abbrev pub takes_enum : Kind → List Level → Bool
takes_enum kind (level ∷ levels) = true
takes_enum Shape [] = true
takes_enum kind [] = false

abbrev pub with_member : Head → List Bytes → Bytes → Part → State
with_member head notes name of = Between (record {
  notes = head.notes;
  name = head.name;
  members = head.members ++ record { notes = notes; name = name; part = of } ∷ [];
})

abbrev pub with_prefix : Level → Prefix → Level
with_prefix level prefix = record { fields = level.fields; notes = level.notes; name = level.name; prefixes = level.prefixes ++ prefix ∷ [] }

-- the fields with one more, of that core
abbrev pub with_core : Level → Core → List Field
with_core level core = level.fields ++ record {
  notes = level.notes;
  name = level.name;
  of = record { prefixes = level.prefixes; core = core };
} ∷ []

-- behind the bracket of a member
abbrev pub finished : Head → List Bytes → Bytes → Kind → Body → State
finished head notes name Shape body = with_member head notes name (part.Shape body)
finished head notes name Input body = Middle head notes name body
finished head notes name (Output input) body = with_member head notes name (part.Method input body)
finished head notes name Fault body = with_member head notes name (part.Fault body)

-- behind the innermost bracket
abbrev pub closed : Head → Begun → List Level → Body → State
closed head member [] body = finished head member.notes member.name member.kind body
closed head member (level ∷ levels) body = Inside head member levels (spot.Fields (with_core level (Inline body)))

-- one more bracket
abbrev pub opened : ℕ → Head → Begun → List Level → Next
opened limit head member levels = if nat_lt (length levels) limit then Going (Inside head member levels spot.First) else Beyond

abbrev pub going_if : Bool → State → Next
going_if true state = Going state
going_if false state = Stray

abbrev pub some_if : {A : Type 0} → Bool → A → Option A
some_if true value = Some value
some_if false value = None

-- more of the innermost bracket
abbrev pub inside_next : Head → Begun → List Level → Option Spot → Next
inside_next head member levels None = Stray
inside_next head member levels (Some at) = Going (Inside head member levels at)

-- a word that begins an entry, with the notes before it
abbrev pub entry_spot : Spot → List Bytes → Bytes → Option Spot
entry_spot spot.First notes w = some_if (is_field_name w) (spot.Only (record { notes = notes; name = w }))
entry_spot (spot.MoreNames names) notes w = some_if (is_field_name w) (spot.Names (names ++ record { notes = notes; name = w } ∷ []))
entry_spot (spot.MoreFields fields) notes w =
    some_if (is_field_name w) (spot.Field (record { fields = fields; notes = notes; name = w; prefixes = [] }))
entry_spot at notes w = None

-- the body that a `)` ends, with the notes before it
abbrev pub body_of : Bool → Spot → List Bytes → Option Body
body_of enums spot.First notes = Some (Struct [] notes)
body_of enums (spot.Only named) notes = some_if enums (Enum (named ∷ []) notes)
body_of enums (spot.Names names) notes = Some (Enum names notes)
body_of enums (spot.Fields fields) notes = Some (Struct fields notes)
body_of enums at notes = None

abbrev pub close_next : Head → Begun → List Level → Option Body → Next
close_next head member levels None = Stray
close_next head member levels (Some body) = Going (closed head member levels body)

abbrev pub keyed : Head → List Bytes → Option Keyword → Next
keyed head notes None = Stray
keyed head notes (Some keyword) = Going (Keyed head notes keyword)

-- a word that is a slot, with the notes before it
abbrev pub slot_word : State → List Bytes → Bytes → Next
slot_word Start notes w = going_if (bytes_eq w (codes "interface")) (Headed notes)
slot_word (Between head) notes w = keyed head notes (keyword_of w)
slot_word (Inside head member levels at) notes w = inside_next head member levels (entry_spot at notes w)
slot_word state notes w = Stray

-- a `)`, with the notes before it
abbrev pub slot_close : State → List Bytes → Next
slot_close (Inside head member levels at) notes = close_next head member levels (body_of (takes_enum member.kind levels) at notes)
slot_close state notes = Stray

-- a slot, with the notes before it
abbrev pub slot_next : State → List Bytes → Lexeme → Next
slot_next state notes (Word, w) = slot_word state notes w
slot_next state notes (Mark, spelling) = slot_close state notes
slot_next state notes (Note, spelling) = Stray

abbrev pub cored : Level → Option Core → Option Spot
cored level None = None
cored level (Some core) = Some (spot.Fields (with_core level core))

-- a word in a type
abbrev pub type_word : Spot → Bytes → Option Spot
type_word (spot.Prefixes level) w = cored level (core_of w)
type_word (spot.Square level) w = some_if (bytes_eq w (codes "string")) (spot.Map level)
type_word at w = None

-- a word that is no slot
abbrev pub word_next : State → Bytes → Next
word_next (Headed notes) w = going_if (is_interface_name w) (Between (record { notes = notes; name = w; members = [] }))
word_next (Keyed head notes keyword) w = going_if (is_member_name w) (Ready head (record { notes = notes; name = w; kind = kind_of keyword }))
word_next (Inside head member levels at) w = inside_next head member levels (type_word at w)
word_next state w = Stray

-- a mark within brackets that is no bracket
abbrev pub mark_spot : Bool → Spot → Sign → Option Spot
mark_spot enums (spot.Only named) Colon = Some (spot.Prefixes (record { fields = []; notes = named.notes; name = named.name; prefixes = [] }))
mark_spot enums (spot.Only named) Comma = some_if enums (spot.MoreNames (named ∷ []))
mark_spot enums (spot.Names names) Comma = Some (spot.MoreNames names)
mark_spot enums (spot.Fields fields) Comma = Some (spot.MoreFields fields)
mark_spot enums (spot.Field level) Colon = Some (spot.Prefixes level)
mark_spot enums (spot.Prefixes level) Question = some_if (not (ends_with_maybe level.prefixes)) (spot.Prefixes (with_prefix level Maybe))
mark_spot enums (spot.Prefixes level) LeftSquare = Some (spot.Square level)
mark_spot enums (spot.Square level) RightSquare = Some (spot.Prefixes (with_prefix level Array))
mark_spot enums (spot.Map level) RightSquare = Some (spot.Prefixes (with_prefix level Map))
mark_spot enums at sign = None

-- a bracket within brackets
abbrev pub open_inner : ℕ → Head → Begun → List Level → Spot → Next
open_inner limit head member levels (spot.Prefixes level) = opened limit head member (level ∷ levels)
open_inner limit head member levels at = Stray

abbrev pub is_open : Sign → Bool
is_open Open = true
is_open sign = false

abbrev pub is_arrow : Sign → Bool
is_arrow Arrow = true
is_arrow sign = false

abbrev pub sign_next : ℕ → State → Sign → Next
sign_next limit (Ready head member) sign = if is_open sign then opened limit head member [] else Stray
sign_next limit (Middle head notes name input) sign =
    going_if (is_arrow sign) (Ready head (record { notes = notes; name = name; kind = Output input }))
sign_next limit (Inside head member levels at) sign = if is_open sign then open_inner limit head member levels at
    else inside_next head member levels (mark_spot (takes_enum member.kind levels) at sign)
sign_next limit state sign = Stray

-- a mark that is no slot
abbrev pub mark_next : ℕ → State → Option Sign → Next
mark_next limit state None = Stray
mark_next limit state (Some sign) = sign_next limit state sign

abbrev pub plain_next : ℕ → State → Lexeme → Next
plain_next limit state (Word, w) = word_next state w
plain_next limit state (Mark, spelling) = mark_next limit state (mark_of spelling)
plain_next limit state (Note, spelling) = Stray

abbrev pub begins_at : Spot → Bool
begins_at spot.First = true
begins_at (spot.MoreNames names) = true
begins_at (spot.MoreFields fields) = true
begins_at spot = false

-- where an item comes
abbrev pub here : State → Here
here (Inside head member levels spot) = record { depth = suc (length levels); begins = begins_at spot }
here state = outside

abbrev pub then_read : Next → (State → Reading) → Reading
then_read (Going state) read = read state
then_read Stray read = Strayed
then_read Beyond read = TooFar

-- the reading of items, with at most `limit` brackets open
abbrev pub run : ℕ → State → List Bytes → Lexemes → Reading
run limit state waiting [] = Read state waiting
run limit state waiting ((Note, spelling) ∷ items) = run limit state (waiting ++ note_text spelling ∷ []) items
run limit state waiting (item ∷ items) = if is_slot (here state) item
    then then_read (slot_next state waiting item) (λ next. run limit next [] items)
    else then_read (plain_next limit state item) (λ next. run limit next waiting items)

-- the reading of a whole definition
abbrev pub whole : Interface → Reading
whole tree = Read (Between (record { notes = tree.notes; name = tree.name; members = tree.members })) tree.tail

-- the notes among the items have their form
abbrev pub note_good : Lexeme → Bool
note_good (Note, spelling) = is_note (note_text spelling)
note_good item = true

abbrev pub notes_good : Lexemes → Bool
notes_good items = list_all note_good items
