-- pairs of types that are looked at
use Rattle.std.proofs.Common.{◌≡◌, ℕ, zero, suc, ◌+◌, ◌-◌, ◌<◌, ◌≤◌, Bool, true, false, ◌⊎◌, inl, inr, cond, nat_lt, List, [], ◌∷◌, ◌++◌, length, take, Option, Some, None, is_none, option_map, slice_get, refl, sym, ap, ◌∙◌, subst, arith, Ordering, Less, Equal, Greater, is_eq, nat_cmp}
use Rattle.std.specs.Ordering.{ordering_then, MatchOrdering}
use Rattle.std.proofs.lemmas.Bool.{cases_eq}
use Rattle.std.proofs.lemmas.Cmp.{ranked}
use Rattle.std.proofs.lemmas.List.{append-nil, length-append}
use borrow.Author.Tests.{ltb-true}
use Rattle.idl_tree.specs.Names.{Bytes}
use Rattle.idl_tree.specs.declared.trees.Prefix.{Prefix}
use Rattle.idl_tree.specs.declared.trees.Prefix.TheVariants.{Array, Map, Maybe}
use Rattle.idl_tree.specs.declared.trees.Field.{Field}
use Rattle.idl_tree.specs.declared.trees.Body.{Body, out-Body}
use Rattle.idl_tree.specs.declared.trees.Core.{Core}
use Rattle.typed_value.specs.Bodies.{body_of}
use Rattle.value_laws.proofs.StructBack.{in_place}
use Rattle.idl_compat.specs.Within.{Scopes, Pair, Line, Among, line, kind_of, body_line, requires, steps_of, word_of, leads_to_failure, bodies}
use Rattle.idl_tree.specs.declared.trees.Interface.{Interface}
use Rattle.idl_compat.specs.Numbers.{IsTarget, entry_body}
use Rattle.idl_compat.specs.Walks.{next_left, stuck, behind_step, end_stuck, words_of, field_words, pair_cmp, Seen, has, unseen_row, unseen_by, size, scopes_of, AreAt, IsVisit, LeadsOn, ComesFrom, IsJoined, Waits, Moved, Added, IsStepAt}
use Rattle.idl_compat.specs.Walks as walks
use Rattle.idl_compat.specs.declared.numbers.Entry.{Entry}
use Rattle.idl_compat.specs.declared.numbers.Table.{Table}
use Rattle.idl_compat.specs.declared.visits.Visit.{Visit}
use Rattle.idl_compat.proofs.Chains.{step_fails, line_fails}
use Rattle.idl_compat.proofs.Numbering.{get_more, get_split, get_last}

-- ---- prefixes

module _ (scopes : Scopes) (core other : Core) where
  pub next_line : (from : List Prefix) (prefix : Prefix) (to rest : List Prefix) → next_left from prefix ≡ Some rest
      → line scopes ((from, core), (prefix ∷ to, other)) ≡ requires (word_of prefix) (rest, core) (to, other)
  next_line (Maybe ∷ from) Maybe to rest h = let same : from ≡ rest = (cc) in ap (λ (ps : List Prefix). requires (word_of Maybe) (ps, core) (to, other)) same
  next_line [] Maybe to rest h = let same : ◌≡◌ {A = List Prefix} [] rest = (cc) in ap (λ (ps : List Prefix). requires (word_of Maybe) (ps, core) (to, other)) same
  next_line (Array ∷ from) Maybe to rest h = let same : Array ∷ from ≡ rest = (cc) in ap (λ (ps : List Prefix). requires (word_of Maybe) (ps, core) (to, other)) same
  next_line (Map ∷ from) Maybe to rest h = let same : Map ∷ from ≡ rest = (cc) in ap (λ (ps : List Prefix). requires (word_of Maybe) (ps, core) (to, other)) same
  next_line (Array ∷ from) Array to rest h = let same : from ≡ rest = (cc) in ap (λ (ps : List Prefix). requires (word_of Array) (ps, core) (to, other)) same
  next_line (Map ∷ from) Map to rest h = let same : from ≡ rest = (cc) in ap (λ (ps : List Prefix). requires (word_of Map) (ps, core) (to, other)) same
  next_line from prefix to rest h = absurd (cc)

  none_line : (from : List Prefix) (prefix : Prefix) (to : List Prefix) → next_left from prefix ≡ None
      → is_none (line scopes ((from, core), (prefix ∷ to, other))) ≡ true
  none_line [] Array to h = refl
  none_line [] Map to h = refl
  none_line (Maybe ∷ from) Array to h = refl
  none_line (Maybe ∷ from) Map to h = refl
  none_line (Map ∷ from) Array to h = refl
  none_line (Array ∷ from) Map to h = refl
  none_line from prefix to h = absurd (cc)

  end_line : (from : List Prefix) (k : ℕ) → end_stuck from ≡ Some k → (k ≡ 0) × (is_none (line scopes ((from, core), ([], other))) ≡ true)
  end_line [] k h = absurd (cc)
  end_line (Maybe ∷ from) k h = let same : 0 ≡ k = (cc) in (sym same, refl)
  end_line (Array ∷ from) k h = let same : 0 ≡ k = (cc) in (sym same, refl)
  end_line (Map ∷ from) k h = let same : 0 ≡ k = (cc) in (sym same, refl)

  pub end_none : (from : List Prefix) → end_stuck from ≡ None → from ≡ []
  end_none [] h = refl
  end_none (prefix ∷ from) h = absurd (cc)

  step_on : (from : List Prefix) (prefix : Prefix) (to rest : List Prefix) (words : List Bytes) → next_left from prefix ≡ Some rest
      → leads_to_failure scopes words (Some ((rest, core), (to, other))) ≡ true
      → leads_to_failure scopes (word_of prefix ∷ words) (Some ((from, core), (prefix ∷ to, other))) ≡ true
  step_on from prefix to rest words next h =
      step_fails scopes ((from, core), (prefix ∷ to, other)) (word_of prefix, Some ((rest, core), (to, other))) words
      (subst (λ (l : Line). Among (word_of prefix, Some ((rest, core), (to, other))) (steps_of l)) (sym (next_line from prefix to rest next)) (inl refl)) h

  abbrev Fails : List Prefix → List Prefix → ℕ → Type 0
  Fails to from k = leads_to_failure scopes (words_of (take k to)) (Some ((from, core), (to, other))) ≡ true

  stuck_later : (prefix : Prefix) (to from rest : List Prefix) (k : ℕ) (stop : Option ℕ) → ((j : ℕ) → stop ≡ Some j → Fails to rest j)
      → next_left from prefix ≡ Some rest → option_map (λ n. suc n) stop ≡ Some k → Fails (prefix ∷ to) from k
  stuck_later prefix to from rest k None later is h = absurd (cc)
  stuck_later prefix to from rest k (Some j) later is h =
      let same : suc j ≡ k = (cc) in
      subst (λ (n : ℕ). Fails (prefix ∷ to) from n) same (step_on from prefix to rest (words_of (take j to)) is (later j refl))

  stuck_behind : (prefix : Prefix) (to from : List Prefix) (k : ℕ) (found : Option (List Prefix)) → ((rest : List Prefix) (j : ℕ) → stuck to rest ≡ Some j → Fails to rest j)
      → next_left from prefix ≡ found → behind_step found (λ rest. stuck to rest) ≡ Some k → Fails (prefix ∷ to) from k
  stuck_behind prefix to from k None later is h =
      let same : 0 ≡ k = (cc) in
      subst (λ (n : ℕ). Fails (prefix ∷ to) from n) same (line_fails scopes ((from, core), (prefix ∷ to, other)) (none_line from prefix to is))
  stuck_behind prefix to from k (Some rest) later is h = stuck_later prefix to from rest k (stuck to rest) (later rest) is h

  pub stuck_fails : (to from : List Prefix) (k : ℕ) → stuck to from ≡ Some k → Fails to from k
  stuck_fails [] from k h =
      let end = end_line from k h in
      subst (λ (n : ℕ). leads_to_failure scopes (words_of (take n [])) (Some ((from, core), ([], other))) ≡ true) (sym end.0)
      (line_fails scopes ((from, core), ([], other)) end.1)
  stuck_fails (prefix ∷ to) from k h = stuck_behind prefix to from k (next_left from prefix) (stuck_fails to) refl h

  pub no_stop : (stop : Option ℕ) → option_map (λ n. suc n) stop ≡ None → stop ≡ None
  no_stop None h = refl
  no_stop (Some j) h = absurd (cc)

  abbrev Leads : List Prefix → List Prefix → List Bytes → Type 0
  Leads to from words = leads_to_failure scopes (words_of to ++ words) (Some ((from, core), (to, other))) ≡ true

  met_behind : (prefix : Prefix) (to from : List Prefix) (words : List Bytes) (found : Option (List Prefix))
      → ((rest : List Prefix) → stuck to rest ≡ None → Leads to rest words) → next_left from prefix ≡ found
      → behind_step found (λ rest. stuck to rest) ≡ None → Leads (prefix ∷ to) from words
  met_behind prefix to from words None later is h = absurd (cc)
  met_behind prefix to from words (Some rest) later is h =
      step_on from prefix to rest (words_of to ++ words) is (later rest (no_stop (stuck to rest) h))

  pub met_leads : (to from : List Prefix) (words : List Bytes) → stuck to from ≡ None
      → leads_to_failure scopes words (Some (([], core), ([], other))) ≡ true → Leads to from words
  met_leads [] from words h leads =
      subst (λ (ps : List Prefix). leads_to_failure scopes words (Some ((ps, core), ([], other))) ≡ true) (sym (end_none from h)) leads
  met_leads (prefix ∷ to) from words h leads = met_behind prefix to from words (next_left from prefix) (λ rest stop. met_leads to rest words stop leads) refl h

-- ---- lines

pub leads_same : (scopes : Scopes) (p q : Pair) (words : List Bytes) → line scopes p ≡ line scopes q
    → leads_to_failure scopes words (Some p) ≡ leads_to_failure scopes words (Some q)
unfolding leads_to_failure
leads_same scopes p q [] h = ap is_none h
leads_same scopes p q (word ∷ words) h = rw h refl

pub bodies_line : (scopes : Scopes) (body reads : Body) → line scopes (bodies body reads) ≡ body_line (out-Body body) (out-Body reads)
bodies_line scopes body reads = rw (in_place scopes.0 body, in_place scopes.1 reads) refl

pub cores_line : (scopes : Scopes) (core other : Core) (body reads : Body) → body_of scopes.0 core ≡ Some body → body_of scopes.1 other ≡ Some reads
    → line scopes (([], core), ([], other)) ≡ line scopes (bodies body reads)
cores_line scopes core other body reads is reads_is = rw (is, reads_is) (sym (bodies_line scopes body reads))

-- ---- pairs not seen

below_last : (j m : ℕ) → j < suc m → (j ≡ m → ⊥) → j < m
below_last j m h other = omega (arith, other)

module _ (old new : Seen) (kept : (n m : ℕ) → has old n m ≡ true → has new n m ≡ true) where
  one_le : (a b : Bool) → (a ≡ true → b ≡ true) → cond b 0 1 ≤ cond a 0 1
  one_le true b h = rw (h refl) (omega arith)
  one_le false true h = omega arith
  one_le false false h = omega arith

  row_le : (n m : ℕ) → unseen_row new n m ≤ unseen_row old n m
  row_le n zero = omega arith
  row_le n (suc m) = omega (arith, row_le n m, one_le (has old n m) (has new n m) (kept n m))

  all_le : (n m : ℕ) → unseen_by new n m ≤ unseen_by old n m
  all_le zero m = omega arith
  all_le (suc n) m = omega (arith, row_le n m, all_le n m)

  module _ (i j : ℕ) (gone : has old i j ≡ false) (here : has new i j ≡ true) where
    here_lt : cond (has new i j) 0 1 + 1 ≤ cond (has old i j) 0 1
    here_lt = rw (gone, here) (omega arith)

    row_lt : (m : ℕ) → j < m → unseen_row new i m + 1 ≤ unseen_row old i m
    row_lt zero h = absurd (omega arith)
    row_lt (suc m) h = elim (cases_eq j m) [
      | inl same ↦ (let at = subst (λ (k : ℕ). cond (has new i k) 0 1 + 1 ≤ cond (has old i k) 0 1) same here_lt in omega (arith, at, row_le i m))
      | inr other ↦ omega (arith, row_lt m (below_last j m h other), one_le (has old i m) (has new i m) (kept i m))
    ]

    all_lt : (n m : ℕ) → i < n → j < m → unseen_by new n m + 1 ≤ unseen_by old n m
    all_lt zero m h k = absurd (omega arith)
    all_lt (suc n) m h k = elim (cases_eq i n) [
      | inl same ↦ (let at = subst (λ (r : ℕ). unseen_row new r m + 1 ≤ unseen_row old r m) same (row_lt m k) in omega (arith, at, all_le n m))
      | inr other ↦ omega (arith, all_lt n m (below_last i n h other) k, row_le n m)
    ]

tied : (x y : ℕ) (o : Ordering) → o ≡ nat_cmp x y → o ≡ Equal → x ≡ y
tied x y o is equal = subst (λ (r : Ordering). MatchOrdering r (x < y) (x ≡ y) (y < x)) equal (ranked x y o is)

pub same_pair : (a b c d : ℕ) (o p : Ordering) → o ≡ nat_cmp a c → p ≡ nat_cmp b d → is_eq (ordering_then o p) ≡ true → (a ≡ c) × (b ≡ d)
same_pair a b c d Less p ho hp h = let no : false ≡ true = h in absurd (cc)
same_pair a b c d Greater p ho hp h = let no : false ≡ true = h in absurd (cc)
same_pair a b c d Equal Less ho hp h = let no : false ≡ true = h in absurd (cc)
same_pair a b c d Equal Greater ho hp h = let no : false ≡ true = h in absurd (cc)
same_pair a b c d Equal Equal ho hp h = (tied a c Equal ho refl, tied b d Equal hp refl)

self_eq : (x : ℕ) (o : Ordering) → o ≡ nat_cmp x x → o ≡ Equal
self_eq x Less is = absurd (omega (arith, ranked x x Less is))
self_eq x Equal is = refl
self_eq x Greater is = absurd (omega (arith, ranked x x Greater is))

pub pair_self : (n m : ℕ) → is_eq (pair_cmp (n, m) (n, m)) ≡ true
pair_self n m = rw (self_eq n (nat_cmp n n) refl, self_eq m (nat_cmp m m) refl) refl

-- ---- trails

pub within_list : {X : Type 0} (xs : List X) (i : ℕ) (x : X) → slice_get xs i ≡ Some x → i < length xs
within_list [] i x h = absurd (cc)
within_list (y ∷ ys) zero x h = omega arith
within_list (y ∷ ys) (suc i) x h = omega (arith, within_list ys i x h)

pub visit_more : (from to : Table) (trail more : List Visit) (place : ℕ) (body reads : Body) → IsVisit from to trail place body reads
    → IsVisit from to (trail ++ more) place body reads
visit_more from to trail more place body reads (visit, is, at) = (visit, get_more trail more place visit is, at)

pub joined_more : (from to : Table) (trail more : List Visit) (place : ℕ) (visit : Visit) → IsJoined from to trail place visit
    → IsJoined from to (trail ++ more) place visit
joined_more from to trail more place visit j = record {
  body = j.body;
  reads = j.reads;
  at = j.at;
  origin = j.origin;
  is = j.is;
  comes = record {
    before = j.comes.before;
    body = j.comes.body;
    reads = j.comes.reads;
    visit = visit_more from to trail more j.origin.0 j.comes.body j.comes.reads j.comes.visit;
    leads = j.comes.leads;
  };
}

pub moved_same : (from to : Table) (seen : Seen) (trail : List Visit) → Moved from to seen seen trail trail
moved_same from to seen trail = record {
  kept = λ n m h. h;
  more = ([], sym (append-nil trail));
  only = λ n m h. inl h;
  joined = λ place visit behind is. absurd (omega (arith, within_list trail place visit is, behind));
  work = omega arith;
}

-- a pair that was added moves the walk
pub either_way : (b c : Bool) → c ≡ true → cond b true c ≡ true
either_way true c h = refl
either_way false c h = h

entry_within : (inner : List Entry) (i : ℕ) (body : Body) → entry_body inner i ≡ Some body → i < length inner
entry_within [] i body h = absurd (cc)
entry_within (entry ∷ inner) zero body h = omega arith
entry_within (entry ∷ inner) (suc i) body h = omega (arith, entry_within inner i body h)

below_by : (b : Bool) (found : Option Body) (inner : List Entry) (n m : ℕ) (body : Body) → (b ≡ true → n < m) → cond b found (entry_body inner (n - m)) ≡ Some body
    → n < m + length inner
below_by true found inner n m body h is = omega (arith, h refl)
below_by false found inner n m body h is = omega (arith, entry_within inner (n - m) body is)

pub in_size : (table : Table) (n : ℕ) (body : Body) → walks.body_in table n ≡ Some body → n < size table
in_size table n body h = below_by (nat_lt n (length table.scope.now.members)) _ table.inner.items n (length table.scope.now.members) body
    (λ is. ltb-true n (length table.scope.now.members) is) h

module _ (from to : Table) (old new : Seen) (before after : List Visit) (visit : Visit) (body reads : Body) (at : AreAt from to visit.from visit.to body reads)
    (joined : IsJoined from to (before ++ visit ∷ []) (length before) visit) where
  last_only : (place : ℕ) (other : Visit) → length before ≤ place → slice_get (before ++ visit ∷ []) place ≡ Some other → IsJoined from to (before ++ visit ∷ []) place other
  last_only place other behind is = elim (get_split before visit place other is) [
    | inl stood ↦ absurd (omega (arith, within_list before place other stood, behind))
    | inr end ↦ subst (λ (v : Visit). IsJoined from to (before ++ visit ∷ []) place v) end.1
        (subst (λ (k : ℕ). IsJoined from to (before ++ visit ∷ []) k visit) (sym end.0) joined)
  ]

  only_by : (n m : ℕ) (b : Bool) → is_eq (pair_cmp (visit.from, visit.to) (n, m)) ≡ b → cond b true (has old n m) ≡ true
      → after ≡ before ++ visit ∷ [] → (has old n m ≡ true) ⊎ Waits (length before) after n m
  only_by n m false is h end = inl h
  only_by n m true is h end =
      let same = same_pair visit.from visit.to n m (nat_cmp visit.from n) (nat_cmp visit.to m) refl refl is in
      inr (record {
        place = length before;
        visit = visit;
        behind = omega arith;
        is = subst (λ (trail : List Visit). slice_get trail (length before) ≡ Some visit) (sym end) (get_last before visit);
        from = same.0;
        to = same.1;
      })

  pub moved_added : Added old new before after visit → Moved from to old new before after
  moved_added (inl (was, same, kept)) = record {
    kept = λ n m h. kept n m ∙ h;
    more = ([], same ∙ sym (append-nil before));
    only = λ n m h. inl (sym (kept n m) ∙ h);
    joined = λ place other behind is. absurd (omega (arith, within_list after place other is, behind, ap length same));
    work = omega (arith, ap length same, all_le old new (λ n m h. kept n m ∙ h) (size from) (size to));
  }
  moved_added (inr (gone, is, kept)) =
      let here : has new visit.from visit.to ≡ true = kept visit.from visit.to ∙ (rw (pair_self visit.from visit.to) refl) in
      let stays : (n m : ℕ) → has old n m ≡ true → has new n m ≡ true = λ n m h. kept n m ∙ either_way (is_eq (pair_cmp (visit.from, visit.to) (n, m))) (has old n m) h in
      record {
        kept = stays;
        more = (visit ∷ [], is);
        only = λ n m h. only_by n m (is_eq (pair_cmp (visit.from, visit.to) (n, m))) refl (sym (kept n m) ∙ h) is;
        joined = λ place other behind there. subst (λ (trail : List Visit). IsJoined from to trail place other) (sym is)
            (last_only place other behind (subst (λ (trail : List Visit). slice_get trail place ≡ Some other) is there));
        work = omega (arith, ap length is, length-append before (visit ∷ []), all_lt old new stays visit.from visit.to gone here (size from) (size to) (in_size from visit.from body at.0) (in_size to visit.to reads at.1));
      }

pub added_here : (old new : Seen) (before after : List Visit) (visit : Visit) → Added old new before after visit → has new visit.from visit.to ≡ true
added_here old new before after visit (inl (was, same, kept)) = kept visit.from visit.to ∙ was
added_here old new before after visit (inr (gone, is, kept)) = kept visit.from visit.to ∙ (rw (pair_self visit.from visit.to) refl)

pub target_is : (scope : Interface) (inner : List Entry) (target : Option ℕ) (found : Option Body) (n : ℕ) → target ≡ Some n → IsTarget scope inner target found
    → IsTarget scope inner (Some n) found
target_is scope inner target found n is h = subst (λ (t : Option ℕ). IsTarget scope inner t found) is h

pub step_leads : (scopes : Scopes) (body reads inner by : Body) (given field : Field)
    → Among (field.name, Some (kind_of given, kind_of field)) (steps_of (body_line (out-Body body) (out-Body reads)))
    → stuck field.of.prefixes given.of.prefixes ≡ None → body_of scopes.0 given.of.core ≡ Some inner → body_of scopes.1 field.of.core ≡ Some by
    → LeadsOn scopes body reads (field_words field) inner by
step_leads scopes body reads inner by given field among stop is by_is more leads =
    step_fails scopes (bodies body reads) (field.name, Some (kind_of given, kind_of field)) (words_of field.of.prefixes ++ more)
    (subst (λ (l : Line). Among (field.name, Some (kind_of given, kind_of field)) (steps_of l)) (sym (bodies_line scopes body reads)) among)
    (met_leads scopes given.of.core field.of.core field.of.prefixes given.of.prefixes more stop
    (leads_same scopes (([], given.of.core), ([], field.of.core)) (bodies inner by) more (cores_line scopes given.of.core field.of.core inner by is by_is) ∙ leads))

pub take_all : {X : Type 0} (xs : List X) → take (length xs) xs ≡ xs
take_all [] = refl
take_all (x ∷ xs) = ap (λ ys. x ∷ ys) (take_all xs)
