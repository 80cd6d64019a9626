-- visits of pairs of bodies, put together
use Rattle.std.proofs.Common.{◌≡◌, ℕ, zero, suc, ◌+◌, ◌<◌, Bool, true, false, inl, inr, cond, List, [], ◌∷◌, ◌++◌, length, take, get_or, find, Option, Some, None, is_some, slice_get, refl, sym, ap, ◌∙◌, subst, arith}
use Rattle.std.specs.List.{position_from}
use Rattle.std.specs.Str.{bytes_eq}
use Rattle.std.specs.BTreeMap.{BTreeMap, get_by_text}
use Rattle.std.specs.declared.alloc.Global.{Global}
use Rattle.std.specs.declared.string.String.{String}
use Rattle.std.proofs.lemmas.Bool.{cases_lt}
use Rattle.std.proofs.lemmas.List.{append_assoc, append-nil, length-append, take_more}
use Rattle.idl_tree.specs.Names.{Bytes}
use Rattle.idl_tree.specs.Form.{begins_with_maybe}
use Rattle.idl_tree.specs.declared.trees.Interface.{Interface}
use Rattle.idl_tree.specs.declared.trees.Field.{Field}
use Rattle.idl_tree.proofs.FirstPlaces.{found_by_place}
use Rattle.idl_tree.specs.declared.trees.Core.{Core}
use Rattle.typed_value.specs.Bodies.{body_of}
use Rattle.std.specs.Prelude.{Result, Ok, Err, IfOk, if◌then◌else◌}
use Rattle.std.specs.Borrow.{Bor}
use Rattle.idl_compat.specs.declared.visits.Stop.TheVariants.{At}
use Rattle.idl_compat.specs.Within.{Step, Among, kind_of, field_step, field_steps, field_named}
use Rattle.idl_compat.specs.Numbers.{IsTarget, AreTargets, Targets}
use Rattle.idl_compat.specs.Walks.{Seen, has, IsSettledCore, IsSettledStep, AllSettled, IsVisit, IsJoined, Moved, IsStepAt, AreStepsAt, Looked, LookedAll, TellsFields, scopes_of}
use Rattle.idl_compat.specs.declared.numbers.Entry.{Entry}
use Rattle.idl_compat.specs.declared.numbers.Table.{Table}
use Rattle.idl_compat.specs.declared.visits.Visit.{Visit}
use Rattle.idl_compat.specs.declared.visits.Stop.{Stop}
use Rattle.idl_compat.proofs.Chains.{among_front, among_back, missing_fails}
use Rattle.idl_compat.proofs.Numbering.{get_more}
use Rattle.idl_compat.proofs.Looking.{visit_more, joined_more, within_list}

-- ---- what was settled stays settled

module _ (from to : Table) (old new : Seen) (kept : (n m : ℕ) → has old n m ≡ true → has new n m ≡ true) where
  core_kept : (core other : Core) → IsSettledCore from to old core other → IsSettledCore from to new core other
  core_kept core other (inl none) = inl none
  core_kept core other (inr s) = inr (record {
    n = s.n;
    m = s.m;
    body = s.body;
    reads = s.reads;
    is_seen = kept s.n s.m s.is_seen;
    at = s.at;
    given = s.given;
    read = s.read;
  })

  step_kept : (step : Step) → IsSettledStep from to old step → IsSettledStep from to new step
  step_kept step (pair, is, settled) = (pair, is, (settled.0, core_kept pair.0.1 pair.1.1 settled.1))

  pub all_kept : (steps : List Step) → AllSettled from to old steps → AllSettled from to new steps
  all_kept [] h = tt
  all_kept (step ∷ steps) (here, later) = (step_kept step here, all_kept steps later)

pub settled_both : (from to : Table) (seen : Seen) (some more : List Step) → AllSettled from to seen some → AllSettled from to seen more
    → AllSettled from to seen (some ++ more)
settled_both from to seen [] more h k = k
settled_both from to seen (step ∷ some) more (here, later) k = (here, settled_both from to seen some more later k)

pub steps_more : (given fields more : List Field) → field_steps given (fields ++ more) ≡ field_steps given fields ++ field_steps given more
steps_more given [] more = refl
steps_more given (field ∷ fields) more =
    ap (λ (steps : List Step). field_step (field_named field.name given) field ++ steps) (steps_more given fields more)
    ∙ sym (append_assoc (field_step (field_named field.name given) field) (field_steps given fields) (field_steps given more))

pub steps_next : (given fields : List Field) (i : ℕ) (field : Field) → i < length fields → field ≡ get_or fields i field
    → field_steps given (take (i + 1) fields) ≡ field_steps given (take i fields) ++ field_step (field_named field.name given) field
steps_next given fields i field within at =
    ap (field_steps given) (take_more fields i field within ∙ ap (λ (f : Field). take i fields ++ f ∷ []) (sym at))
    ∙ steps_more given (take i fields) (field ∷ [])
    ∙ ap (λ (steps : List Step). field_steps given (take i fields) ++ steps) (append-nil (field_step (field_named field.name given) field))

step_among : (given fields : List Field) (i : ℕ) (field : Field) (step : Step) → i < length fields → field ≡ get_or fields i field
    → Among step (field_step (field_named field.name given) field) → Among step (field_steps given fields)
step_among given [] i field step within at h = absurd (omega arith)
step_among given (first ∷ fields) zero field step within at h =
    among_front step (field_step (field_named first.name given) first) (field_steps given fields) (subst (λ (f : Field). Among step (field_step (field_named f.name given) f)) at h)
step_among given (first ∷ fields) (suc i) field step within at h =
    among_back step (field_step (field_named first.name given) first) (field_steps given fields) (step_among given fields i field step (omega arith) at h)

pub one_field : (given fields : List Field) (i : ℕ) (field : Field) → i < length fields → field ≡ get_or fields i field
    → (step : Step) → Among step (field_step (field_named field.name given) field) → Among step (field_steps given fields)
one_field given fields i field within at step h = step_among given fields i field step within at h

-- ---- movements

pub get_front : {X : Type 0} (xs more : List X) (i : ℕ) (x : X) → i < length xs → slice_get (xs ++ more) i ≡ Some x → slice_get xs i ≡ Some x
get_front [] more i x within h = absurd (omega arith)
get_front (y ∷ ys) more zero x within h = h
get_front (y ∷ ys) more (suc i) x within h = get_front ys more i x (omega arith) h

pub moved_on : (from to : Table) (a b c : Seen) (x y z : List Visit) → Moved from to a b x y → Moved from to b c y z → Moved from to a c x z
moved_on from to a b c x y z one two = record {
  kept = λ n m h. two.kept n m (one.kept n m h);
  more = (one.more.0 ++ two.more.0, two.more.1 ∙ ap (λ (trail : List Visit). trail ++ two.more.0) one.more.1 ∙ append_assoc x one.more.0 two.more.0);
  only = λ n m h. elim (two.only n m h) [
    | inl before ↦ elim (one.only n m before) [
      | inl first ↦ inl first
      | inr waits ↦ inr (record {
        place = waits.place;
        visit = waits.visit;
        behind = waits.behind;
        is = subst (λ (trail : List Visit). slice_get trail waits.place ≡ Some waits.visit) (sym two.more.1) (get_more y two.more.0 waits.place waits.visit waits.is);
        from = waits.from;
        to = waits.to;
      })
    ]
    | inr waits ↦ inr (record {
      place = waits.place;
      visit = waits.visit;
      behind = omega (arith, waits.behind, ap length one.more.1, length-append x one.more.0);
      is = waits.is;
      from = waits.from;
      to = waits.to;
    })
  ];
  joined = λ place visit behind is. elim (cases_lt place (length y)) [
    | inl early ↦ subst (λ (trail : List Visit). IsJoined from to trail place visit) (sym two.more.1)
        (joined_more from to y two.more.0 place visit (one.joined place visit behind
        (get_front y two.more.0 place visit early (subst (λ (trail : List Visit). slice_get trail place ≡ Some visit) two.more.1 is))))
    | inr late ↦ two.joined place visit (omega (arith, late)) is
  ];
  work = omega (arith, one.work, two.work);
}

pub steps_moved : (from to : Table) (a b : Seen) (x y : List Visit) (place : ℕ) (steps : List Step) → Moved from to a b x y
    → AreStepsAt from to x place steps → AreStepsAt from to y place steps
steps_moved from to a b x y place steps moved at step among =
    let here = at step among in
    record {
      body = here.body;
      reads = here.reads;
      visit = subst (λ (trail : List Visit). IsVisit from to trail place here.body here.reads) (sym moved.more.1) (visit_more from to x moved.more.0 place here.body here.reads here.visit);
      among = here.among;
    }

-- ---- fields by name

pub target_at : (scope : Interface) (inner : List Entry) (targets : Targets) (fields : List Field) (i : ℕ) (field : Field) → AreTargets scope inner targets fields
    → slice_get fields i ≡ Some field → (target : Option ℕ) × (slice_get targets i ≡ Some target) × IsTarget scope inner target (body_of scope field.of.core)
target_at scope inner [] [] i field h at = absurd (cc)
target_at scope inner (target ∷ targets) (first ∷ fields) zero field (here, later) at =
    let same : first ≡ field = (cc) in (target, refl, subst (λ (f : Field). IsTarget scope inner target (body_of scope f.of.core)) same here)
target_at scope inner (target ∷ targets) (first ∷ fields) (suc i) field (here, later) at = target_at scope inner targets fields i field later at
target_at scope inner [] (first ∷ fields) i field h at = absurd h
target_at scope inner (target ∷ targets) [] i field h at = absurd h

pub same_length : (scope : Interface) (inner : List Entry) (targets : Targets) (fields : List Field) → AreTargets scope inner targets fields → length targets ≡ length fields
same_length scope inner [] [] h = refl
same_length scope inner (target ∷ targets) (field ∷ fields) (here, later) = ap (λ n. suc n) (same_length scope inner targets fields later)
same_length scope inner [] (field ∷ fields) h = absurd h
same_length scope inner (target ∷ targets) [] h = absurd h

pub target_or : (scope : Interface) (inner : List Entry) (targets : Targets) (fields : List Field) (i : ℕ) (field : Field) → AreTargets scope inner targets fields
    → i < length fields → field ≡ get_or fields i field → IsTarget scope inner (get_or targets i None) (body_of scope field.of.core)
target_or scope inner [] [] i field h within at = absurd (omega arith)
target_or scope inner (target ∷ targets) (first ∷ fields) zero field (here, later) within at =
    subst (λ (f : Field). IsTarget scope inner target (body_of scope f.of.core)) (sym at) here
target_or scope inner (target ∷ targets) (first ∷ fields) (suc i) field (here, later) within at = target_or scope inner targets fields i field later (omega arith) at
target_or scope inner [] (first ∷ fields) i field h within at = absurd h
target_or scope inner (target ∷ targets) [] i field h within at = absurd h

-- a place that a map of fields gives is that of the field of this name
abbrev Placed : {X : Type 0} → (X → Bool) → List X → ℕ → ℕ → Type 0
Placed {X = X} p xs j k = (i : ℕ) × (x : X) × (k ≡ j + i) × (slice_get xs i ≡ Some x) × (find p xs ≡ Some x)

placed_by : {X : Type 0} (p : X → Bool) (x : X) (xs : List X) (j k : ℕ) (passes : Bool) → p x ≡ passes → ((h : position_from p (j + 1) xs ≡ Some k) → Placed p xs (j + 1) k)
    → cond passes (Some j) (position_from p (j + 1) xs) ≡ Some k → Placed p (x ∷ xs) j k
placed_by p x xs j k true is later h = let same : j ≡ k = (cc) in (0, x, omega (arith, same), refl, rw is refl)
placed_by p x xs j k false is later h =
    let (i, y, at, got, found) = later h in
    let this : find p (x ∷ xs) ≡ find p xs = rw is refl in
    (suc i, y, omega (arith, at), got, this ∙ found)

placed : {X : Type 0} (p : X → Bool) (xs : List X) (j k : ℕ) → position_from p j xs ≡ Some k → Placed p xs j k
placed p [] j k h = absurd (cc)
placed p (x ∷ xs) j k h = placed_by p x xs j k (p x) refl (placed p xs (j + 1) k) h

pub field_at : (places : BTreeMap (String Global) ℕ) (fields : List Field) (name : Bytes) (i : ℕ) → TellsFields places fields → get_by_text places name ≡ Some i
    → (field : Field) × (slice_get fields i ≡ Some field) × (field_named name fields ≡ Some field)
field_at places fields name i tells is =
    let (k, field, at, got, found) = placed (λ (field : Field). bytes_eq field.name name) fields 0 i (sym (tells name) ∙ is) in
    let same : k ≡ i = omega (arith, at) in
    (field, subst (λ (n : ℕ). slice_get fields n ≡ Some field) same got, found)

pub place_within : (places : BTreeMap (String Global) ℕ) (fields : List Field) (name : Bytes) (i : ℕ) → TellsFields places fields → get_by_text places name ≡ Some i → i < length fields
place_within places fields name i tells is = let (field, got, found) = field_at places fields name i tells is in within_list fields i field got

pub field_is : (places : BTreeMap (String Global) ℕ) (fields : List Field) (name : Bytes) (i : ℕ) (field : Field) → TellsFields places fields → get_by_text places name ≡ Some i
    → slice_get fields i ≡ Some field → field_named name fields ≡ Some field
field_is places fields name i field tells is at =
    let (other, got, found) = field_at places fields name i tells is in
    let same : Some other ≡ Some field = sym got ∙ at in found ∙ same

-- ---- what was looked at

pub looked_stop : (from to : Table) (seen : Seen) (some all : List Step) (found : Option Stop) → is_some found ≡ true
    → ((step : Step) → Among step some → Among step all) → LookedAll from to seen some found → LookedAll from to seen all found
looked_stop from to seen some all None h into looked = let no : false ≡ true = h in absurd (cc)
looked_stop from to seen some all (Some stop) h into (step, among, stops) = (step, into step among, stops)

pub looked_none : (from to : Table) (seen : Seen) (steps : List Step) (found : Option Stop) → is_some found ≡ false
    → LookedAll from to seen steps found → AllSettled from to seen steps
looked_none from to seen steps None h looked = looked
looked_none from to seen steps (Some stop) h looked = let no : true ≡ false = h in absurd (cc)

pub if_ok : {A E : Type 0} {P Q : A → Type 0} (r : Result A E) → ((x : A) → P x → Q x) → IfOk r P → IfOk r Q
if_ok (Ok x) more h = more x h
if_ok (Err e) more h = tt

pub field_gone : (places : BTreeMap (String Global) ℕ) (fields : List Field) (name : Bytes) → TellsFields places fields → get_by_text places name ≡ None → field_named name fields ≡ None
field_gone places fields name tells is = found_by_place (λ (field : Field). bytes_eq field.name name) fields None (sym is ∙ tells name)

pub step_here : (from to : Table) (trail : List Visit) (place : ℕ) (found : Option Field) (given field : Field) → found ≡ Some given
    → AreStepsAt from to trail place (field_step found field) → IsStepAt from to trail place (field.name, Some (kind_of given, kind_of field))
step_here from to trail place found given field is at =
    at (field.name, Some (kind_of given, kind_of field))
    (subst (λ (o : Option Field). Among (field.name, Some (kind_of given, kind_of field)) (field_step o field)) (sym is) (inl refl))

one_looked : (from to : Table) (seen : Seen) (given field : Field) (stop : Option Stop) → Looked from to seen (field.name, Some (kind_of given, kind_of field)) stop
    → LookedAll from to seen (field_step (Some given) field) stop
one_looked from to seen given field None settled = (settled, tt)
one_looked from to seen given field (Some stop) stops = ((field.name, Some (kind_of given, kind_of field)), inl refl, stops)

pub looked_here : {E : Type 0} (from to : Table) (seen : Seen) (found : Option Field) (given field : Field) (r : Result (Option Stop) E) → found ≡ Some given
    → IfOk r (Looked from to seen (field.name, Some (kind_of given, kind_of field))) → IfOk r (LookedAll from to seen (field_step found field))
looked_here from to seen found given field r is looked =
    subst (λ (o : Option Field). IfOk r (LookedAll from to seen (field_step o field))) (sym is) (if_ok r (one_looked from to seen given field) looked)

missing_by : (from to : Table) (seen : Seen) (field : Bor Field) (optional : Bool) → begins_with_maybe field.now.of.prefixes ≡ optional
    → LookedAll from to seen (field_step None field.now) (if optional then None else Some (At field 0))
missing_by from to seen field true is = rw is tt
missing_by from to seen field false is = rw is ((field.now.name, None), inl refl, ([], refl, missing_fails (scopes_of from to)))

pub missing_looked : (from to : Table) (seen : Seen) (field : Bor Field) (found : Option Field) (stop : Option Stop) → found ≡ None
    → stop ≡ (if begins_with_maybe field.now.of.prefixes then None else Some (At field 0)) → LookedAll from to seen (field_step found field.now) stop
missing_looked from to seen field found stop gone is = rw (gone, is) (missing_by from to seen field (begins_with_maybe field.now.of.prefixes) refl)

pub get_or_itself : {X : Type 0} (xs : List X) (i : ℕ) (d : X) → i < length xs → get_or xs i d ≡ get_or xs i (get_or xs i d)
get_or_itself [] i d within = absurd (omega arith)
get_or_itself (x ∷ xs) zero d within = refl
get_or_itself (x ∷ xs) (suc i) d within = get_or_itself xs i d (omega arith)
