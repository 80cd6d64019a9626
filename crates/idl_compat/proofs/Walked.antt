-- walks along a trail: from where each visit comes, and that what is seen in the end is within
use Rattle.std.proofs.Common.{◌≡◌, ℕ, zero, suc, ◌+◌, ◌<◌, ◌≤◌, Bool, true, false, ◌&&◌, ◌⊎◌, inl, inr, cond, List, [], ◌∷◌, ◌++◌, length, Option, Some, None, is_none, slice_get, option_and_then, refl, sym, ap, ◌∙◌, subst, arith, is_eq, bytes_eq}
use Rattle.std.specs.List.{list_any}
use Rattle.std.specs.Borrow.{Bor}
use Rattle.std.proofs.lemmas.Bool.{cases_lt, cases_eq}
use Rattle.std.proofs.lemmas.List.{length-append}
use Rattle.idl_tree.specs.Names.{Bytes}
use Rattle.idl_tree.specs.declared.trees.Prefix.{Prefix}
use Rattle.idl_tree.specs.declared.trees.Field.{Field}
use Rattle.idl_tree.specs.declared.trees.Core.{Core}
use Rattle.idl_tree.specs.declared.trees.Body.{Body, out-Body}
use Rattle.idl_compat.specs.Within.{Scopes, Pair, Step, Line, Among, Within, line, steps_of, word_of, body_line, leads_to_failure, bodies}
use Rattle.idl_compat.specs.Walks.{Seen, has, pair_cmp, scopes_of, body_in, AreAt, IsVisit, IsTrail, IsRoot, IsJoined, ComesFrom, Waits, Moved, Added, Walking, AreSettled, AllSettled, IsSettledCore, IsSettledLine, HasVisit, HasVisited, HasTrail, IsSettledStep, AllWithin, IsWithin, StopsVisit, field_words, stop_words, next_left, stuck, behind_step}
use Rattle.idl_compat.specs.declared.numbers.Table.{Table}
use Rattle.idl_compat.specs.declared.visits.Visit.{Visit}
use Rattle.idl_compat.specs.declared.visits.Stop.{Stop}
use Rattle.idl_compat.proofs.Numbering.{get_more}
use Rattle.idl_compat.proofs.Looking.{within_list, joined_more, same_pair, either_way, bodies_line, leads_same, cores_line, next_line, end_none, no_stop}
use Rattle.idl_compat.proofs.Visiting.{get_front, all_kept}

-- ---- what stands at a place is one

one_body : (table : Table) (n : ℕ) (body other : Body) → body_in table n ≡ Some body → body_in table n ≡ Some other → body ≡ other
one_body table n body other is by = let same : Some body ≡ Some other = sym is ∙ by in (cc)

one_pair : (from to : Table) (n m : ℕ) (body reads b r : Body) → AreAt from to n m body reads → AreAt from to n m b r → (body ≡ b) × (reads ≡ r)
one_pair from to n m body reads b r at by = (one_body from n body b at.0 by.0, one_body to m reads r at.1 by.1)

one_visit : (from to : Table) (trail : List Visit) (place : ℕ) (body reads b r : Body) → IsVisit from to trail place body reads → IsVisit from to trail place b r
    → (body ≡ b) × (reads ≡ r)
one_visit from to trail place body reads b r (visit, is, at) (other, there, by) =
    let same : Some visit ≡ Some other = sym is ∙ there in
    let eq : visit ≡ other = (cc) in
    one_pair from to other.from other.to body reads b r (subst (λ (v : Visit). AreAt from to v.from v.to body reads) eq at) by

has_at : {X : Type 0} (xs : List X) (i : ℕ) → i < length xs → (x : X) × (slice_get xs i ≡ Some x)
has_at [] i h = absurd (omega arith)
has_at (x ∷ xs) zero h = (x, refl)
has_at (x ∷ xs) (suc i) h = has_at xs i (omega arith)

-- ---- from where a visit comes

abbrev pub origin_of : List Visit → ℕ → Option (ℕ × Bor Field)
origin_of trail at = option_and_then (λ (visit : Visit). visit.origin) (slice_get trail at)

pub record Came (from to : Table) (trail : List Visit) (at : ℕ) (origin : ℕ × Bor Field) : Type 0 where
  pub body : Body
  pub reads : Body
  pub visit : IsVisit from to trail at body reads
  pub comes : ComesFrom from to trail at body reads origin

pub came_from : (from to : Table) (root by : Body) (trail : List Visit) (at : ℕ) (origin : ℕ × Bor Field) → IsTrail from to root by trail → at < length trail
    → origin_of trail at ≡ Some origin → Came from to trail at origin
came_from from to root by trail at origin trail_is within h =
    let (visit, is) = has_at trail at within in
    let here : visit.origin ≡ Some origin = sym (ap (λ (found : Option Visit). option_and_then (λ (v : Visit). v.origin) found) is) ∙ h in
    elim (trail_is at visit is) [
      | inl first ↦ (let no : None ≡ Some origin = sym first.is ∙ here in absurd (cc))
      | inr joined ↦ (
          let same : Some joined.origin ≡ Some origin = sym joined.is ∙ here in
          let eq : joined.origin ≡ origin = (cc) in
          record {
            body = joined.body;
            reads = joined.reads;
            visit = (visit, is, joined.at);
            comes = subst (λ (o : ℕ × Bor Field). ComesFrom from to trail at joined.body joined.reads o) eq joined.comes;
          })
    ]

pub root_at : (from to : Table) (root by : Body) (trail : List Visit) (at : ℕ) → IsTrail from to root by trail → at < length trail
    → origin_of trail at ≡ None → IsVisit from to trail at root by
root_at from to root by trail at trail_is within h =
    let (visit, is) = has_at trail at within in
    let here : visit.origin ≡ None = sym (ap (λ (found : Option Visit). option_and_then (λ (v : Visit). v.origin) found) is) ∙ h in
    elim (trail_is at visit is) [
      | inl first ↦ (visit, is, first.at)
      | inr joined ↦ (let no : None ≡ Some joined.origin = sym here ∙ joined.is in absurd (cc))
    ]

abbrev pub Leads : Table → Table → List Visit → ℕ → List Bytes → Type 0
Leads from to trail at words = (body reads : Body) → IsVisit from to trail at body reads → leads_to_failure (scopes_of from to) words (Some (bodies body reads)) ≡ true

pub leads_back : (from to : Table) (trail : List Visit) (at earlier : ℕ) (field : Bor Field) (words : List Bytes) → Came from to trail at (earlier, field)
    → Leads from to trail at words → Leads from to trail earlier (field_words field.now ++ words)
leads_back from to trail at earlier field words came leads b r visit =
    let one = one_visit from to trail earlier came.comes.body came.comes.reads b r came.comes.visit visit in
    let there = came.comes.leads words (leads came.body came.reads came.visit) in
    subst (λ (x : Body). leads_to_failure (scopes_of from to) (field_words field.now ++ words) (Some (bodies x r)) ≡ true) one.0
    (subst (λ (y : Body). leads_to_failure (scopes_of from to) (field_words field.now ++ words) (Some (bodies came.comes.body y)) ≡ true) one.1 there)

-- ---- the walk

first_waits : (old : Seen) (trail : List Visit) (first : Visit) (n m : ℕ) (b : Bool) → trail ≡ first ∷ [] → is_eq (pair_cmp (first.from, first.to) (n, m)) ≡ b
    → cond b true (has old n m) ≡ true → (has old n m ≡ true) ⊎ Waits 0 trail n m
first_waits old trail first n m false is same h = inl h
first_waits old trail first n m true is same h =
    let pair = same_pair first.from first.to n m _ _ refl refl same in
    inr (record { place = 0; visit = first; behind = omega arith; is = ap (λ (t : List Visit). slice_get t 0) is; from = pair.0; to = pair.1 })

only_first : (from to : Table) (root by : Body) (trail : List Visit) (first : Visit) (place : ℕ) (visit : Visit) → IsRoot from to first root by
    → slice_get (first ∷ []) place ≡ Some visit → IsRoot from to visit root by ⊎ IsJoined from to trail place visit
only_first from to root by trail first zero visit root_is there =
    let same : first ≡ visit = (cc) in inl (subst (λ (v : Visit). IsRoot from to v root by) same root_is)
only_first from to root by trail first (suc place) visit root_is there = absurd (cc)

pub walk_starts : (from to : Table) (old new : Seen) (trail : List Visit) (first : Visit) (root by : Body) → first.origin ≡ None → Added old new [] trail first
    → AreAt from to first.from first.to root by → Walking from to root by old new trail 0
walk_starts from to old new trail first root by alone (inl (was, same, kept)) at = record {
  kept = λ n m h. kept n m ∙ h;
  only = λ n m h. inl (sym (kept n m) ∙ h);
  is = λ place visit there. let no : None ≡ Some visit = sym (ap (λ (t : List Visit). slice_get t place) same) ∙ there in absurd (cc);
  settled = λ earlier body reads below visit. absurd (omega (arith, below));
}
walk_starts from to old new trail first root by alone (inr (gone, is, kept)) at = record {
  kept = λ n m h. kept n m ∙ either_way (is_eq (pair_cmp (first.from, first.to) (n, m))) (has old n m) h;
  only = λ n m h. first_waits old trail first n m (is_eq (pair_cmp (first.from, first.to) (n, m))) is refl (sym (kept n m) ∙ h);
  is = λ place visit there. only_first from to root by trail first place visit (record { is = alone; at = at })
      (subst (λ (t : List Visit). slice_get t place ≡ Some visit) is there);
  settled = λ earlier body reads below visit. absurd (omega (arith, below));
}

waits_more : (first : ℕ) (trail more : List Visit) (n m : ℕ) → Waits first trail n m → Waits 0 (trail ++ more) n m
waits_more first trail more n m w = record {
  place = w.place;
  visit = w.visit;
  behind = omega arith;
  is = get_more trail more w.place w.visit w.is;
  from = w.from;
  to = w.to;
}

line_kept : (from to : Table) (old new : Seen) (l : Line) → ((n m : ℕ) → has old n m ≡ true → has new n m ≡ true) → IsSettledLine from to old l → IsSettledLine from to new l
line_kept from to old new None kept h = h
line_kept from to old new (Some steps) kept h = all_kept from to old new kept steps h

visit_front : (from to : Table) (trail more : List Visit) (place : ℕ) (body reads : Body) → place < length trail → IsVisit from to (trail ++ more) place body reads
    → IsVisit from to trail place body reads
visit_front from to trail more place body reads within (visit, is, at) = (visit, get_front trail more place visit within is, at)

settled_at : (from to : Table) (seen : Seen) (trail : List Visit) (place : ℕ) (body reads : Body) → HasVisited from to seen trail place None
    → IsVisit from to trail place body reads → AreSettled from to seen body reads
settled_at from to seen trail place body reads visited visit =
    let one = one_visit from to trail place visited.body visited.reads body reads visited.visit visit in
    subst (λ (b : Body). AreSettled from to seen b reads) one.0 (subst (λ (r : Body). AreSettled from to seen visited.body r) one.1 visited.visited)

-- the trail is longer, and the visit at the place is settled
earlier_one : (a b : ℕ) → a < b + 1 → (a ≡ b → ⊥) → a < b
earlier_one a b h other = omega (arith, other)

walk_along : (from to : Table) (root by : Body) (old mid new : Seen) (trail more : List Visit) (place : ℕ) → place < length trail
    → Walking from to root by old mid trail place → Moved from to mid new trail (trail ++ more) → HasVisited from to new trail place None
    → Walking from to root by old new (trail ++ more) (place + 1)
walk_along from to root by old mid new trail more place within walking moved visited = record {
  kept = λ n m h. moved.kept n m (walking.kept n m h);
  only = λ n m h. elim (moved.only n m h) [
    | inl before ↦ elim (walking.only n m before) [
      | inl first ↦ inl first
      | inr waits ↦ inr (waits_more 0 trail more n m waits)
    ]
    | inr waits ↦ inr (record { place = waits.place; visit = waits.visit; behind = omega arith; is = waits.is; from = waits.from; to = waits.to })
  ];
  is = λ at visit there. elim (cases_lt at (length trail)) [
    | inl early ↦ elim (walking.is at visit (get_front trail more at visit early there)) [
      | inl first ↦ inl first
      | inr joined ↦ inr (joined_more from to trail more at visit joined)
    ]
    | inr late ↦ inr (moved.joined at visit (omega (arith, late)) there)
  ];
  settled = λ earlier body reads below visit. elim (cases_eq earlier place) [
    | inl same ↦ settled_at from to new trail place body reads visited
        (subst (λ (k : ℕ). IsVisit from to trail k body reads) same (visit_front from to trail more earlier body reads (omega (arith, within, same)) visit))
    | inr other ↦ line_kept from to mid new (body_line (out-Body body) (out-Body reads)) moved.kept
        (walking.settled earlier body reads (earlier_one earlier place below other)
        (visit_front from to trail more earlier body reads (omega (arith, within, below)) visit))
  ];
}

pub walk_goes_on : (from to : Table) (root by : Body) (old mid new : Seen) (trail after : List Visit) (place : ℕ) → place < length trail
    → Walking from to root by old mid trail place → Moved from to mid new trail after → HasVisited from to new trail place None
    → Walking from to root by old new after (place + 1)
walk_goes_on from to root by old mid new trail after place within walking moved visited =
    subst (λ (t : List Visit). Walking from to root by old new t (place + 1)) (sym moved.more.1)
    (walk_along from to root by old mid new trail moved.more.0 place within walking
    (subst (λ (t : List Visit). Moved from to mid new trail t) moved.more.1 moved) visited)

pub visit_waits : (from to : Table) (root by : Body) (old new : Seen) (trail : List Visit) (place : ℕ) → place < length trail → Walking from to root by old new trail place
    → HasVisit from to trail place
visit_waits from to root by old new trail place within walking =
    let (visit, is) = has_at trail place within in
    elim (walking.is place visit is) [
      | inl first ↦ record { body = root; reads = by; visit = (visit, is, first.at) }
      | inr joined ↦ record { body = joined.body; reads = joined.reads; visit = (visit, is, joined.at) }
    ]

pub stops_at : (from to : Table) (seen : Seen) (trail : List Visit) (place : ℕ) (stop : Stop) → HasVisited from to seen trail place (Some stop) → StopsVisit from to trail place stop
stops_at from to seen trail place stop visited body reads visit =
    let one = one_visit from to trail place visited.body visited.reads body reads visited.visit visit in
    subst (λ (b : Body). leads_to_failure (scopes_of from to) (stop_words stop) (Some (bodies b reads)) ≡ true) one.0
    (subst (λ (r : Body). leads_to_failure (scopes_of from to) (stop_words stop) (Some (bodies visited.body r)) ≡ true) one.1 visited.visited)

-- ---- what is settled is within

abbrev Leadless : Scopes → List Bytes → Pair → Type 0
Leadless scopes words pair = leads_to_failure scopes words (Some pair) ≡ false

and_false : (b : Bool) → (b && false) ≡ false
and_false true = refl
and_false false = refl

-- none of the steps leads to a failure
none_leads : (scopes : Scopes) (word : Bytes) (words : List Bytes) (steps : List Step) → ((step : Step) → Among step steps → leads_to_failure scopes words step.1 ≡ false)
    → list_any (λ (step : Step). bytes_eq step.0 word && leads_to_failure scopes words step.1) steps ≡ false
none_leads scopes word words [] none = refl
none_leads scopes word words (step ∷ steps) none =
    rw (none step (inl refl), and_false (bytes_eq step.0 word)) (none_leads scopes word words steps (λ other among. none other (inr among)))

line_leads : (scopes : Scopes) (pair : Pair) (steps : List Step) (words : List Bytes) → line scopes pair ≡ Some steps
    → ((word : Bytes) (more : List Bytes) (step : Step) → words ≡ word ∷ more → Among step steps → leads_to_failure scopes more step.1 ≡ false) → Leadless scopes words pair
unfolding leads_to_failure
line_leads scopes pair steps [] is none = ap is_none is
line_leads scopes pair steps (word ∷ more) is none =
    ap (λ (l : Line). list_any (λ (step : Step). bytes_eq step.0 word && leads_to_failure scopes more step.1) (steps_of l)) is
    ∙ none_leads scopes word more steps (λ step among. none word more step refl among)

behind_word : (limit : ℕ) (words more : List Bytes) (word : Bytes) → length words ≤ suc limit → words ≡ word ∷ more → length more ≤ limit
behind_word limit words more word h is = omega (arith, h, ap length is)

settled_step : (from to : Table) (seen : Seen) (steps : List Step) (step : Step) → AllSettled from to seen steps → Among step steps → IsSettledStep from to seen step
settled_step from to seen [] step settled among = absurd among
settled_step from to seen (first ∷ steps) step (here, later) (inl same) = subst (IsSettledStep from to seen) (sym same) here
settled_step from to seen (first ∷ steps) step (here, later) (inr among) = settled_step from to seen steps step later among

module _ (from to : Table) (seen : Seen) (limit : ℕ)
    (shorter : (words : List Bytes) → length words ≤ limit → (n m : ℕ) (body reads : Body) → has seen n m ≡ true → AreAt from to n m body reads
    → leads_to_failure (scopes_of from to) words (Some (bodies body reads)) ≡ false) where
  core_leads : (core other : Core) (words : List Bytes) → length words ≤ limit → IsSettledCore from to seen core other
      → Leadless (scopes_of from to) words (([], core), ([], other))
  core_leads core other words short (inl none) = line_leads (scopes_of from to) (([], core), ([], other)) [] words none (λ word more step is among. absurd among)
  core_leads core other words short (inr s) =
      leads_same (scopes_of from to) (([], core), ([], other)) (bodies s.body s.reads) words (cores_line (scopes_of from to) core other s.body s.reads s.given s.read)
      ∙ shorter words short s.n s.m s.body s.reads s.is_seen s.at

  abbrev Met : Core → Core → List Prefix → Type 0
  Met core other into = (left : List Prefix) (words : List Bytes) → length words ≤ limit → stuck into left ≡ None → Leadless (scopes_of from to) words ((left, core), (into, other))

  met_by : (core other : Core) (prefix : Prefix) (into left : List Prefix) (words : List Bytes) (found : Option (List Prefix)) → length words ≤ limit → Met core other into
      → next_left left prefix ≡ found → behind_step found (λ rest. stuck into rest) ≡ None → Leadless (scopes_of from to) words ((left, core), (prefix ∷ into, other))
  met_by core other prefix into left words None short later is h = absurd (cc)
  met_by core other prefix into left words (Some rest) short later is h =
      line_leads (scopes_of from to) ((left, core), (prefix ∷ into, other)) ((word_of prefix, Some ((rest, core), (into, other))) ∷ []) words
      (next_line (scopes_of from to) core other left prefix into rest is)
      (λ word more step behind among. elim among [
        | inl same ↦ ap (λ (s : Step). leads_to_failure (scopes_of from to) more s.1) same
            ∙ later rest more (omega (arith, short, ap length behind)) (no_stop (scopes_of from to) core other (stuck into rest) h)
        | inr none ↦ absurd none
      ])

  types_lead : (core other : Core) (into : List Prefix) → IsSettledCore from to seen core other → Met core other into
  types_lead core other [] settled left words short met =
      subst (λ (ps : List Prefix). Leadless (scopes_of from to) words ((ps, core), ([], other))) (sym (end_none (scopes_of from to) core other left met))
      (core_leads core other words short settled)
  types_lead core other (prefix ∷ into) settled left words short met =
      met_by core other prefix into left words (next_left left prefix) short (types_lead core other into settled) refl met

  step_leads_not : (step : Step) (words : List Bytes) → length words ≤ limit → IsSettledStep from to seen step → leads_to_failure (scopes_of from to) words step.1 ≡ false
  step_leads_not step words short (pair, is, settled) =
      ap (leads_to_failure (scopes_of from to) words) is ∙ types_lead pair.0.1 pair.1.1 pair.1.0 settled.1 pair.0.0 words short settled.0

-- each pair that is seen is settled, or within
abbrev Closed : Table → Table → Seen → Type 0
Closed from to seen = (n m : ℕ) (body reads : Body) → has seen n m ≡ true → AreAt from to n m body reads
    → AreSettled from to seen body reads ⊎ Within (scopes_of from to) (bodies body reads)

settled_leads : (from to : Table) (seen : Seen) (limit : ℕ) (body reads : Body) (l : Line) (words : List Bytes) → length words ≤ suc limit
    → ((more : List Bytes) → length more ≤ limit → (n m : ℕ) (b r : Body) → has seen n m ≡ true → AreAt from to n m b r → leads_to_failure (scopes_of from to) more (Some (bodies b r)) ≡ false)
    → line (scopes_of from to) (bodies body reads) ≡ l → IsSettledLine from to seen l → Leadless (scopes_of from to) words (bodies body reads)
settled_leads from to seen limit body reads None words short shorter is settled = absurd settled
settled_leads from to seen limit body reads (Some steps) words short shorter is settled =
    line_leads (scopes_of from to) (bodies body reads) steps words is
    (λ word more step behind among. step_leads_not from to seen limit shorter step more (behind_word limit words more word short behind) (settled_step from to seen steps step settled among))

no_words : (from to : Table) (seen : Seen) (body reads : Body) (l : Line) (words : List Bytes) → length words ≤ 0 → line (scopes_of from to) (bodies body reads) ≡ l
    → IsSettledLine from to seen l → leads_to_failure (scopes_of from to) words (Some (bodies body reads)) ≡ false
no_words from to seen body reads None words short is settled = absurd settled
no_words from to seen body reads (Some steps) words short is settled =
    line_leads (scopes_of from to) (bodies body reads) steps words is (λ word more step behind among. absurd (omega (arith, short, ap length behind)))

-- by the number of words
seen_leads : (from to : Table) (seen : Seen) → Closed from to seen → (limit : ℕ) (words : List Bytes) → length words ≤ limit → (n m : ℕ) (body reads : Body) → has seen n m ≡ true
    → AreAt from to n m body reads → leads_to_failure (scopes_of from to) words (Some (bodies body reads)) ≡ false
seen_leads from to seen closed zero words short n m body reads is at = elim (closed n m body reads is at) [
  | inl settled ↦ no_words from to seen body reads (body_line (out-Body body) (out-Body reads)) words (omega (arith, short)) (bodies_line (scopes_of from to) body reads) settled
  | inr within ↦ within words
]
seen_leads from to seen closed (suc limit) words short n m body reads is at = elim (closed n m body reads is at) [
  | inl settled ↦ settled_leads from to seen limit body reads (body_line (out-Body body) (out-Body reads)) words short (seen_leads from to seen closed limit)
      (bodies_line (scopes_of from to) body reads) settled
  | inr within ↦ within words
]

-- ---- the end of a walk

within_by : (from to : Table) (b r body reads : Body) → (b ≡ body) × (r ≡ reads) → Within (scopes_of from to) (bodies b r) → Within (scopes_of from to) (bodies body reads)
within_by from to b r body reads one within =
    subst (λ (x : Body). Within (scopes_of from to) (bodies x reads)) one.0 (subst (λ (y : Body). Within (scopes_of from to) (bodies b y)) one.1 within)

waits_at : (from to : Table) (trail : List Visit) (n m : ℕ) (body reads : Body) → (w : Waits 0 trail n m) → AreAt from to n m body reads → IsVisit from to trail w.place body reads
waits_at from to trail n m body reads w at = (
  w.visit,
  w.is,
  subst (λ (k : ℕ). AreAt from to k w.visit.to body reads) (sym w.from) (subst (λ (k : ℕ). AreAt from to n k body reads) (sym w.to) at),
)

closed_at_end : (from to : Table) (root by : Body) (old new : Seen) (trail : List Visit) (place : ℕ) → Walking from to root by old new trail place → length trail ≤ place
    → AllWithin from to old → Closed from to new
closed_at_end from to root by old new trail place walking done before n m body reads is at = elim (walking.only n m is) [
  | inl first ↦ (let w = before n m first in inr (within_by from to w.body w.reads body reads (one_pair from to n m w.body w.reads body reads w.at at) w.within))
  | inr w ↦ inl (walking.settled w.place body reads (omega (arith, within_list trail w.place w.visit w.is, done)) (waits_at from to trail n m body reads w at))
]

at_numbers : (from to : Table) (trail : List Visit) (n m : ℕ) (body reads : Body) → (w : Waits 0 trail n m) → AreAt from to w.visit.from w.visit.to body reads → AreAt from to n m body reads
at_numbers from to trail n m body reads w at =
    subst (λ (k : ℕ). AreAt from to n k body reads) w.to (subst (λ (k : ℕ). AreAt from to k w.visit.to body reads) w.from at)

is_within : (from to : Table) (seen : Seen) → Closed from to seen → (n m : ℕ) (body reads : Body) → has seen n m ≡ true → AreAt from to n m body reads → IsWithin from to n m
is_within from to seen closed n m body reads is at = record {
  body = body;
  reads = reads;
  at = at;
  within = λ words. seen_leads from to seen closed (length words) words (omega arith) n m body reads is at;
}

pub walk_ends : (from to : Table) (root by : Body) (old new : Seen) (trail : List Visit) (place : ℕ) → Walking from to root by old new trail place → length trail ≤ place
    → AllWithin from to old → AllWithin from to new
walk_ends from to root by old new trail place walking done before n m is =
    let closed = closed_at_end from to root by old new trail place walking done before in
    elim (walking.only n m is) [
      | inl first ↦ before n m first
      | inr w ↦ elim (walking.is w.place w.visit w.is) [
        | inl at_root ↦ is_within from to new closed n m root by is (at_numbers from to trail n m root by w at_root.at)
        | inr joined ↦ is_within from to new closed n m joined.body joined.reads is (at_numbers from to trail n m joined.body joined.reads w joined.at)
      ]
    ]

pub root_within : (from to : Table) (seen : Seen) (n m : ℕ) (body reads : Body) → AllWithin from to seen → has seen n m ≡ true → AreAt from to n m body reads
    → Within (scopes_of from to) (bodies body reads)
root_within from to seen n m body reads all is at =
    let w = all n m is in within_by from to w.body w.reads body reads (one_pair from to n m w.body w.reads body reads w.at at) w.within

-- the trail of a walk that looked at one visit more
trail_more : (from to : Table) (root by : Body) (trail more : List Visit) → IsTrail from to root by trail
    → ((place : ℕ) (visit : Visit) → length trail ≤ place → slice_get (trail ++ more) place ≡ Some visit → IsJoined from to (trail ++ more) place visit)
    → IsTrail from to root by (trail ++ more)
trail_more from to root by trail more is joined at visit there = elim (cases_lt at (length trail)) [
  | inl early ↦ elim (is at visit (get_front trail more at visit early there)) [
    | inl first ↦ inl first
    | inr stood ↦ inr (joined_more from to trail more at visit stood)
  ]
  | inr late ↦ inr (joined at visit (omega (arith, late)) there)
]

pub trail_after : (from to : Table) (root by : Body) (old mid new : Seen) (trail after : List Visit) (place : ℕ) → Walking from to root by old mid trail place
    → Moved from to mid new trail after → IsTrail from to root by after
trail_after from to root by old mid new trail after place walking moved =
    let long = subst (λ (t : List Visit). Moved from to mid new trail t) moved.more.1 moved in
    subst (λ (t : List Visit). IsTrail from to root by t) (sym moved.more.1) (trail_more from to root by trail moved.more.0 walking.is long.joined)

pub has_trail : (from to : Table) (root by : Body) (old mid new : Seen) (trail after : List Visit) (place : ℕ) → place < length trail → Walking from to root by old mid trail place
    → Moved from to mid new trail after → HasTrail from to after place
has_trail from to root by old mid new trail after place within walking moved = record {
  root = root;
  by = by;
  is = trail_after from to root by old mid new trail after place walking moved;
  within = omega (arith, within, ap length moved.more.1, length-append trail moved.more.0);
}

pub stops_after : (from to : Table) (mid new : Seen) (trail after : List Visit) (place : ℕ) (stop : Stop) (found : Option Stop) → place < length trail → Moved from to mid new trail after
    → HasVisited from to new trail place found → found ≡ Some stop → StopsVisit from to after place stop
stops_after from to mid new trail after place stop found within moved visited is body reads visit =
    stops_at from to new trail place stop (subst (HasVisited from to new trail place) is visited) body reads
    (visit_front from to trail moved.more.0 place body reads within (subst (λ (t : List Visit). IsVisit from to t place body reads) moved.more.1 visit))
