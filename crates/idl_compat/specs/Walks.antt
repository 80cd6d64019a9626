-- Walks along the pairs of bodies that a pair requires: for private clauses.
use Rattle.std.specs.Prelude.{◌≡◌, ℕ, zero, suc, ◌+◌, ◌<◌, ◌≤◌, Bool, true, false, ◌⊎◌, List, [], ◌∷◌, ◌++◌, length, map, take, Option, Some, None, option_map, slice_get, if◌then◌else◌}
use Rattle.std.specs.BTreeSet.{BTreeSet, contains}
use Rattle.std.specs.BTreeMap.{BTreeMap, get_by_text}
use Rattle.std.specs.Borrow.{Bor}
use Rattle.std.specs.List.{list_any, position_from}
use Rattle.std.specs.Str.{bytes_eq}
use Rattle.std.specs.declared.alloc.Global.{Global}
use Rattle.std.specs.declared.string.String.{String}
use Rattle.std.specs.Ordering.{ordering_then, nat_cmp, is_eq}
use Rattle.std.specs.declared.cmp.Ordering.{Ordering}
use Rattle.idl_tree.specs.Names.{Bytes}
use Rattle.idl_tree.specs.declared.trees.Prefix.{Prefix}
use Rattle.idl_tree.specs.declared.trees.Prefix.TheVariants.{Array, Map, Maybe}
use Rattle.idl_tree.specs.declared.trees.Field.{Field}
use Rattle.idl_tree.specs.declared.trees.Named.{Named}
use Rattle.idl_tree.specs.Places.{has_name}
use Rattle.idl_tree.specs.declared.trees.Body.{Body, out-Body}
use Rattle.idl_tree.specs.declared.trees.Core.{Core}
use Rattle.typed_value.specs.Bodies.{body_of}
use Rattle.idl_compat.specs.Within.{Scopes, Pair, Step, Line, Among, nothing, line, body_line, steps_of, word_of, leads_to_failure, Within, bodies}
use Rattle.idl_compat.specs.Numbers.{body_at}
use Rattle.idl_compat.specs.declared.numbers.Table.{Table}
use Rattle.idl_compat.specs.declared.visits.Visit.{Visit}
use Rattle.idl_compat.specs.declared.visits.Stop.{Stop}
use Rattle.idl_compat.specs.declared.visits.Stop.TheVariants.{Here, At}

-- ---- prefixes

-- what is left of the values' prefixes behind a prefix of the type that reads them
abbrev pub next_left : List Prefix → Prefix → Option (List Prefix)
next_left (Maybe ∷ left) Maybe = Some left
next_left left Maybe = Some left
next_left (Array ∷ left) Array = Some left
next_left (Map ∷ left) Map = Some left
next_left left prefix = None

-- how many prefixes of the type that reads are behind when the pair fails, or None where both come to their cores
abbrev pub end_stuck : List Prefix → Option ℕ
end_stuck [] = None
end_stuck (prefix ∷ left) = Some 0

abbrev pub behind_step : Option (List Prefix) → (List Prefix → Option ℕ) → Option ℕ
behind_step None rest = Some 0
behind_step (Some left) rest = option_map (λ n. suc n) (rest left)

abbrev pub stuck : List Prefix → List Prefix → Option ℕ
stuck [] from = end_stuck from
stuck (prefix ∷ to) from = behind_step (next_left from prefix) (λ left. stuck to left)

abbrev pub words_of : List Prefix → List Bytes
words_of prefixes = map word_of prefixes

-- the words from a struct to the core of a field
abbrev pub field_words : Field → List Bytes
field_words field = field.name ∷ words_of field.of.prefixes

-- the words from a pair of bodies to what stops there
abbrev pub stop_words : Stop → List Bytes
stop_words Here = []
stop_words (At field count) = field.now.name ∷ words_of (take count field.now.of.prefixes)

-- ---- names

-- the map has each name, with the place of the first field of that name
abbrev pub TellsFields : BTreeMap (String Global) ℕ → List Field → Type 0
TellsFields places fields = (name : Bytes) → get_by_text places name ≡ position_from (λ (field : Field). bytes_eq field.name name) 0 fields

-- the set has the names of the enum
abbrev pub TellsNames : BTreeSet (Bor Bytes) → List Named → Type 0
TellsNames known names = (name : Bytes) → has_name known name ≡ list_any (λ (other : Named). bytes_eq other.name name) names

-- ---- pairs that were seen

abbrev pub pair_cmp : ℕ × ℕ → ℕ × ℕ → Ordering
pair_cmp one other = ordering_then (nat_cmp one.0 other.0) (nat_cmp one.1 other.1)

abbrev pub Seen : Type 0
Seen = BTreeSet (ℕ × ℕ)

abbrev pub has : Seen → ℕ → ℕ → Bool
has seen n m = contains pair_cmp seen (n, m)

-- those that were not, of numbers below these
abbrev pub unseen_row : Seen → ℕ → ℕ → ℕ
unseen_row seen n zero = 0
unseen_row seen n (suc m) = (if has seen n m then 0 else 1) + unseen_row seen n m

abbrev pub unseen_by : Seen → ℕ → ℕ → ℕ
unseen_by seen zero m = 0
unseen_by seen (suc n) m = unseen_row seen n m + unseen_by seen n m

-- how many numbers a table has
abbrev pub size : Table → ℕ
size table = length table.scope.now.members + length table.inner.items

abbrev pub scopes_of : Table → Table → Scopes
scopes_of from to = (from.scope.now, to.scope.now)

abbrev pub body_in : Table → ℕ → Option Body
body_in table number = body_at table.scope.now table.inner.items number

-- the bodies of a pair of numbers
abbrev pub AreAt : Table → Table → ℕ → ℕ → Body → Body → Type 0
AreAt from to n m body reads = (body_in from n ≡ Some body) × (body_in to m ≡ Some reads)

-- the bodies of a pair of cores are a pair that was seen
pub record SeenBodies (from to : Table) (seen : Seen) (core other : Core) : Type 0 where
  pub n : ℕ
  pub m : ℕ
  pub body : Body
  pub reads : Body
  pub is_seen : has seen n m ≡ true
  pub at : AreAt from to n m body reads
  pub given : body_of from.scope.now core ≡ Some body
  pub read : body_of to.scope.now other ≡ Some reads

pub record HasBodies (from to : Table) (n m : ℕ) : Type 0 where
  pub body : Body
  pub reads : Body
  pub at : AreAt from to n m body reads

-- a pair of cores that requires nothing, or whose bodies are a pair that was seen
abbrev pub IsSettledCore : Table → Table → Seen → Core → Core → Type 0
IsSettledCore from to seen core other = (line (scopes_of from to) (([], core), ([], other)) ≡ nothing)
    ⊎ SeenBodies from to seen core other

-- a pair of types that comes to such cores
abbrev pub IsSettled : Table → Table → Seen → Pair → Type 0
IsSettled from to seen pair = (stuck pair.1.0 pair.0.0 ≡ None) × IsSettledCore from to seen pair.0.1 pair.1.1

abbrev pub IsSettledStep : Table → Table → Seen → Step → Type 0
IsSettledStep from to seen step = (pair : Pair) × (step.1 ≡ Some pair) × IsSettled from to seen pair

abbrev pub AllSettled : Table → Table → Seen → List Step → Type 0
AllSettled from to seen [] = Unit {0}
AllSettled from to seen (step ∷ steps) = IsSettledStep from to seen step × AllSettled from to seen steps

-- all that a line requires is settled
abbrev pub IsSettledLine : Table → Table → Seen → Line → Type 0
IsSettledLine from to seen None = ⊥
IsSettledLine from to seen (Some steps) = AllSettled from to seen steps

abbrev pub AreSettled : Table → Table → Seen → Body → Body → Type 0
AreSettled from to seen body reads = IsSettledLine from to seen (body_line (out-Body body) (out-Body reads))

-- ---- the trail

-- the visit at a place is of these bodies
abbrev pub IsVisit : Table → Table → List Visit → ℕ → Body → Body → Type 0
IsVisit from to trail place body reads =
    (visit : Visit) × (slice_get trail place ≡ Some visit) × AreAt from to visit.from visit.to body reads

-- chains from the one pair are chains from the other behind these words
abbrev pub LeadsOn : Scopes → Body → Body → List Bytes → Body → Body → Type 0
LeadsOn scopes body reads words inner by = (more : List Bytes) → leads_to_failure scopes more (Some (bodies inner by)) ≡ true
    → leads_to_failure scopes (words ++ more) (Some (bodies body reads)) ≡ true

-- a pair of bodies that the visit at an earlier place requires, behind the words of a field
pub record ComesFrom (from to : Table) (trail : List Visit) (place : ℕ) (inner by : Body) (origin : ℕ × Bor Field) : Type 0 where
  pub before : origin.0 < place
  pub body : Body
  pub reads : Body
  pub visit : IsVisit from to trail origin.0 body reads
  pub leads : LeadsOn (scopes_of from to) body reads (field_words origin.1.now) inner by

-- a visit behind the first
pub record IsJoined (from to : Table) (trail : List Visit) (place : ℕ) (visit : Visit) : Type 0 where
  pub body : Body
  pub reads : Body
  pub at : AreAt from to visit.from visit.to body reads
  pub origin : ℕ × Bor Field
  pub is : visit.origin ≡ Some origin
  pub comes : ComesFrom from to trail place body reads origin

-- ---- one step of a walk

-- a pair was seen, or is now seen and waits at the end of the trail
abbrev pub Added : Seen → Seen → List Visit → List Visit → Visit → Type 0
Added old new before after visit =
    ((has old visit.from visit.to ≡ true) × (after ≡ before) × ((n m : ℕ) → has new n m ≡ has old n m))
    ⊎ ((has old visit.from visit.to ≡ false) × (after ≡ before ++ visit ∷ [])
    × ((n m : ℕ) → has new n m ≡ (if is_eq (pair_cmp (visit.from, visit.to) (n, m)) then true else has old n m)))

-- the pair waits at that place of the trail or behind it
pub record Waits (first : ℕ) (trail : List Visit) (n m : ℕ) : Type 0 where
  pub place : ℕ
  pub visit : Visit
  pub behind : first ≤ place
  pub is : slice_get trail place ≡ Some visit
  pub from : visit.from ≡ n
  pub to : visit.to ≡ m

-- further pairs are seen, each of which waits behind the trail
pub record Moved (from to : Table) (old new : Seen) (before after : List Visit) : Type 0 where
  pub kept : (n m : ℕ) → has old n m ≡ true → has new n m ≡ true
  pub more : (added : List Visit) × (after ≡ before ++ added)
  pub only : (n m : ℕ) → has new n m ≡ true → (has old n m ≡ true)
      ⊎ Waits (length before) after n m
  pub joined : (place : ℕ) (visit : Visit) → length before ≤ place → slice_get after place ≡ Some visit → IsJoined from to after place visit
  pub work : unseen_by new (size from) (size to) + length after ≤ unseen_by old (size from) (size to) + length before

-- what stops at a step
abbrev pub StopsAt : Scopes → Step → Stop → Type 0
StopsAt scopes step stop = (tail : List Bytes) × (stop_words stop ≡ step.0 ∷ tail) × (leads_to_failure scopes tail step.1 ≡ true)

-- a pair of types was looked at: it is settled, or stops the walk
abbrev pub Looked : Table → Table → Seen → Step → Option Stop → Type 0
Looked from to seen step None = IsSettledStep from to seen step
Looked from to seen step (Some stop) = StopsAt (scopes_of from to) step stop

-- pairs of types were looked at: all are settled, or one stops the walk
abbrev pub LookedAll : Table → Table → Seen → List Step → Option Stop → Type 0
LookedAll from to seen steps None = AllSettled from to seen steps
LookedAll from to seen steps (Some stop) = (step : Step) × Among step steps × StopsAt (scopes_of from to) step stop

-- a pair of bodies was visited
abbrev pub Visited : Table → Table → Seen → Body → Body → Option Stop → Type 0
Visited from to seen body reads None = AreSettled from to seen body reads
Visited from to seen body reads (Some stop) =
    leads_to_failure (scopes_of from to) (stop_words stop) (Some (bodies body reads)) ≡ true

-- the step stands in the line of the visit at that place
pub record IsStepAt (from to : Table) (trail : List Visit) (place : ℕ) (step : Step) : Type 0 where
  pub body : Body
  pub reads : Body
  pub visit : IsVisit from to trail place body reads
  pub among : Among step (steps_of (body_line (out-Body body) (out-Body reads)))

-- so do the steps
abbrev pub AreStepsAt : Table → Table → List Visit → ℕ → List Step → Type 0
AreStepsAt from to trail place steps = (step : Step) → Among step steps → IsStepAt from to trail place step

-- the bodies of the visit at a place
pub record HasVisit (from to : Table) (trail : List Visit) (place : ℕ) : Type 0 where
  pub body : Body
  pub reads : Body
  pub visit : IsVisit from to trail place body reads

pub record HasVisited (from to : Table) (seen : Seen) (trail : List Visit) (place : ℕ) (found : Option Stop) : Type 0 where
  pub body : Body
  pub reads : Body
  pub visit : IsVisit from to trail place body reads
  pub visited : Visited from to seen body reads found

-- ---- walks

-- a pair that is seen, and within
pub record IsWithin (from to : Table) (n m : ℕ) : Type 0 where
  pub body : Body
  pub reads : Body
  pub at : AreAt from to n m body reads
  pub within : Within (scopes_of from to) (bodies body reads)

abbrev pub AllWithin : Table → Table → Seen → Type 0
AllWithin from to seen = (n m : ℕ) → has seen n m ≡ true → IsWithin from to n m

-- the first visit of a trail is of the root, and each other comes from an earlier one
pub record IsRoot (from to : Table) (visit : Visit) (root by : Body) : Type 0 where
  pub is : visit.origin ≡ None
  pub at : AreAt from to visit.from visit.to root by

abbrev pub IsTrail : Table → Table → Body → Body → List Visit → Type 0
IsTrail from to root by trail = (place : ℕ) (visit : Visit) → slice_get trail place ≡ Some visit
    → IsRoot from to visit root by ⊎ IsJoined from to trail place visit

-- what stops a walk: its words lead from the root to a pair that fails
abbrev pub Found : Table → Table → Body → Body → Option (List Bytes) → Type 0
Found from to root by None = Within (scopes_of from to) (bodies root by)
Found from to root by (Some path) = leads_to_failure (scopes_of from to) path (Some (bodies root by)) ≡ true

-- the visit at a place stops there
abbrev pub StopsVisit : Table → Table → List Visit → ℕ → Stop → Type 0
StopsVisit from to trail place stop = (body reads : Body) → IsVisit from to trail place body reads
    → leads_to_failure (scopes_of from to) (stop_words stop) (Some (bodies body reads)) ≡ true

-- a trail that has a visit at that place
pub record HasTrail (from to : Table) (trail : List Visit) (place : ℕ) : Type 0 where
  pub root : Body
  pub by : Body
  pub is : IsTrail from to root by trail
  pub within : place < length trail

-- a walk at a place of its trail: what stands before is settled, and what is seen was seen before or waits in the trail
pub record Walking (from to : Table) (root by : Body) (old new : Seen) (trail : List Visit) (place : ℕ) : Type 0 where
  pub kept : (n m : ℕ) → has old n m ≡ true → has new n m ≡ true
  pub only : (n m : ℕ) → has new n m ≡ true → (has old n m ≡ true) ⊎ Waits 0 trail n m
  pub is : IsTrail from to root by trail
  pub settled : (earlier : ℕ) (body reads : Body) → earlier < place → IsVisit from to trail earlier body reads → AreSettled from to new body reads

-- a walk from a pair of bodies found that it is within, or words that lead to a failure
abbrev pub FoundIn : Scopes → Body → Body → Option (List Bytes) → Type 0
FoundIn scopes body reads None = Within scopes (bodies body reads)
FoundIn scopes body reads (Some path) = leads_to_failure scopes path (Some (bodies body reads)) ≡ true
