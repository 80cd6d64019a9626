-- bodies that are numbered one after another
use Rattle.std.proofs.Common.{◌≡◌, ℕ, zero, suc, ◌+◌, ◌-◌, ◌<◌, Bool, true, false, ◌⊎◌, inl, inr, cond, nat_lt, List, [], ◌∷◌, ◌++◌, length, take, find, Option, Some, None, Result, Ok, Err, OnOk, option_map, option_and_then, slice_get, refl, sym, ap, ◌∙◌, subst, arith, get_or}
use Rattle.std.specs.List.{position_from}
use Rattle.std.proofs.lemmas.List.{take_more, append_assoc, append-nil}
use Rattle.idl_tree.specs.Names.{Bytes}
use Rattle.idl_tree.specs.Faults.{is_named, is_space, space_of, shape_in, type_named}
use Rattle.idl_tree.specs.declared.spaces.Space.TheVariants.{Types}
use Rattle.idl_tree.specs.declared.trees.Interface.{Interface}
use Rattle.idl_tree.specs.declared.trees.Member.{Member}
use Rattle.idl_tree.specs.declared.trees.Part.{Part}
use Rattle.idl_tree.specs.declared.trees.Part.TheVariants.{Shape, Method, Fault}
use Rattle.idl_tree.specs.declared.trees.Field.{Field}
use Rattle.idl_tree.specs.declared.trees.Body.{Body}
use Rattle.typed_value.specs.Bodies.{body_of, fields_of}
use Rattle.idl_tree.proofs.FirstPlaces.{found_by_place}
use Rattle.typed_value.proofs.Distinct.{first_true}
use Rattle.idl_compat.specs.Numbers.{AllTold, Grown, IsTarget, AreTargets, Targets, first_body, entry_body, body_at, targets_at, or_none, RowsTold, IsTable}
use Rattle.idl_compat.specs.declared.numbers.Entry.{Entry}
use Rattle.idl_compat.specs.declared.numbers.Table.{Table}

pub get_more : {X : Type 0} (xs more : List X) (i : ℕ) (x : X) → slice_get xs i ≡ Some x → slice_get (xs ++ more) i ≡ Some x
get_more [] more i x h = absurd (cc)
get_more (y ∷ ys) more zero x h = h
get_more (y ∷ ys) more (suc i) x h = get_more ys more i x h

pub get_last : {X : Type 0} (xs : List X) (x : X) → slice_get (xs ++ x ∷ []) (length xs) ≡ Some x
get_last [] x = refl
get_last (y ∷ ys) x = get_last ys x

-- an element of a longer list is one before or the last
pub get_split : {X : Type 0} (xs : List X) (last : X) (i : ℕ) (x : X) → slice_get (xs ++ last ∷ []) i ≡ Some x
    → (slice_get xs i ≡ Some x) ⊎ ((i ≡ length xs) × (last ≡ x))
get_split [] last zero x h = let same : last ≡ x = (cc) in inr (refl, same)
get_split [] last (suc i) x h = absurd (cc)
get_split (y ∷ ys) last zero x h = inl h
get_split (y ∷ ys) last (suc i) x h = elim (get_split ys last i x h) [ inl before ↦ inl before | inr end ↦ inr (omega (arith, end.0), end.1) ]

by_range : (b : Bool) (found : Option Body) (inner more : List Entry) (i : ℕ) (body : Body) → cond b found (entry_body inner i) ≡ Some body
    → cond b found (entry_body (inner ++ more) i) ≡ Some body
by_range true found inner more i body h = h
by_range false found [] more i body h = absurd (cc)
by_range false found (entry ∷ inner) more zero body h = h
by_range false found (entry ∷ inner) more (suc i) body h = by_range false found inner more i body h

pub body_more : (scope : Interface) (inner more : List Entry) (number : ℕ) (body : Body) → body_at scope inner number ≡ Some body
    → body_at scope (inner ++ more) number ≡ Some body
body_more scope inner more number body h =
    by_range (nat_lt number (length scope.members)) _ inner more (number - length scope.members) body h

target_more : (scope : Interface) (inner more : List Entry) (target : Option ℕ) (found : Option Body) → IsTarget scope inner target found
    → IsTarget scope (inner ++ more) target found
target_more scope inner more None found h = h
target_more scope inner more (Some number) found (body, is, at) = (body, is, body_more scope inner more number body at)

pub targets_more : (scope : Interface) (inner more : List Entry) (targets : Targets) (fields : List Field) → AreTargets scope inner targets fields
    → AreTargets scope (inner ++ more) targets fields
targets_more scope inner more [] [] h = tt
targets_more scope inner more (target ∷ targets) (field ∷ fields) (here, later) =
    (target_more scope inner more target (body_of scope field.of.core) here, targets_more scope inner more targets fields later)
targets_more scope inner more [] (field ∷ fields) h = absurd h
targets_more scope inner more (target ∷ targets) [] h = absurd h

pub targets_along : (scope : Interface) (before after : List Entry) (targets : Targets) (fields : List Field) → Grown scope before after
    → AreTargets scope before targets fields → AreTargets scope after targets fields
targets_along scope before after targets fields grown h =
    subst (λ (inner : List Entry). AreTargets scope inner targets fields) (sym grown.more.1) (targets_more scope before grown.more.0 targets fields h)

pub body_along : (scope : Interface) (before after : List Entry) (number : ℕ) (body : Body) → Grown scope before after
    → body_at scope before number ≡ Some body → body_at scope after number ≡ Some body
body_along scope before after number body grown h =
    subst (λ (inner : List Entry). body_at scope inner number ≡ Some body) (sym grown.more.1) (body_more scope before grown.more.0 number body h)

pub grown_same : (scope : Interface) (inner : List Entry) → AllTold scope inner → Grown scope inner inner
grown_same scope inner told = record { told = told; more = ([], sym (append-nil inner)) }

pub grown_on : (scope : Interface) (a b c : List Entry) → Grown scope a b → Grown scope b c → Grown scope a c
grown_on scope a b c one two = record {
  told = two.told;
  more = (one.more.0 ++ two.more.0, two.more.1 ∙ ap (λ (inner : List Entry). inner ++ two.more.0) one.more.1 ∙ append_assoc a one.more.0 two.more.0);
}

pub grown_by : (scope : Interface) (before after : List Entry) (entry : Entry) → Grown scope before after
    → AreTargets scope after entry.targets (fields_of entry.body.now) → Grown scope before (after ++ entry ∷ [])
grown_by scope before after entry grown told = grown_on scope before after (after ++ entry ∷ []) grown (record {
  told = λ place other at. elim (get_split after entry place other at) [
    | inl stood ↦ targets_more scope after (entry ∷ []) other.targets (fields_of other.body.now) (grown.told place other stood)
    | inr end ↦ targets_more scope after (entry ∷ []) other.targets (fields_of other.body.now)
        (subst (λ (e : Entry). AreTargets scope after e.targets (fields_of e.body.now)) end.1 told)
  ];
  more = (entry ∷ [], refl);
})

not_below : (n m : ℕ) → nat_lt (n + m) n ≡ false
not_below n m = grind (arith)

pub here_last : (scope : Interface) (inner : List Entry) (entry : Entry) (number : ℕ) → number ≡ length scope.members + length inner
    → body_at scope (inner ++ entry ∷ []) number ≡ Some entry.body.now
here_last scope inner entry number is =
    let rest : length scope.members + length inner - length scope.members ≡ length inner = omega arith in
    rw (is, not_below, rest) (ap (option_map (λ (e : Entry). e.body.now)) (get_last inner entry))

pub are_more : (scope : Interface) (inner : List Entry) (targets : Targets) (fields : List Field) (target : Option ℕ) (field : Field)
    → AreTargets scope inner targets fields → IsTarget scope inner target (body_of scope field.of.core)
    → AreTargets scope inner (targets ++ target ∷ []) (fields ++ field ∷ [])
are_more scope inner [] [] target field h here = (here, tt)
are_more scope inner (first ∷ targets) (one ∷ fields) target field (h, later) here = (h, are_more scope inner targets fields target field later here)
are_more scope inner [] (one ∷ fields) target field h here = absurd h
are_more scope inner (first ∷ targets) [] target field h here = absurd h

pub are_next : (scope : Interface) (inner : List Entry) (targets : Targets) (fields : List Field) (i : ℕ) (target : Option ℕ) (field : Field)
    → i < length fields → field ≡ get_or fields i field
    → AreTargets scope inner targets (take i fields) → IsTarget scope inner target (body_of scope field.of.core)
    → AreTargets scope inner (targets ++ target ∷ []) (take (i + 1) fields)
are_next scope inner targets fields i target field within at h here =
    subst (λ (some : List Field). AreTargets scope inner (targets ++ target ∷ []) some)
    (sym (take_more fields i field within ∙ ap (λ (f : Field). take i fields ++ f ∷ []) (sym at))) (are_more scope inner targets (take i fields) target field h here)

-- ---- types by name

shape_of : (part : Part) → is_space Types (space_of part) ≡ true → shape_in part ≡ Some (first_body part)
shape_of (Shape body) h = refl
shape_of (Method input output) h = let no : false ≡ true = h in absurd (cc)
shape_of (Fault body) h = let no : false ≡ true = h in absurd (cc)

passes_by : (p : Member → Bool) (b : Bool) (first : Member) (later : Option Member) (member : Member) → p first ≡ b → cond b (Some first) later ≡ Some member
    → (later ≡ Some member → p member ≡ true) → p member ≡ true
passes_by p true first later member is h rest = let same : first ≡ member = (cc) in sym (ap p same) ∙ is
passes_by p false first later member is h rest = rest h

passes : (p : Member → Bool) (members : List Member) (member : Member) → find p members ≡ Some member → p member ≡ true
passes p [] member h = absurd (cc)
passes p (first ∷ members) member h = passes_by p (p first) first (find p members) member refl h (passes p members member)

below : {X : Type 0} (xs : List X) (i : ℕ) (x : X) → slice_get xs i ≡ Some x → nat_lt i (length xs) ≡ true
below [] i x h = absurd (cc)
below (y ∷ ys) zero x h = grind (arith)
below (y ∷ ys) (suc i) x h = let later = below ys i x h in grind (arith)

at_place : (scope : Interface) (inner : List Entry) (place : ℕ) (member : Member) → slice_get scope.members place ≡ Some member
    → body_at scope inner place ≡ Some (first_body member.part)
at_place scope inner place member h = rw (below scope.members place member h, h) refl

not_none : {X : Type 0} (xs : List X) (i : ℕ) → i < length xs → slice_get xs i ≡ None → ⊥
not_none [] i within h = omega (arith)
not_none (x ∷ xs) zero within h = (cc)
not_none (x ∷ xs) (suc i) within h = not_none xs i (omega (arith)) h

placed_by : (p : Member → Bool) (b : Bool) (i : ℕ) (members : List Member) (later : Option ℕ) (place : ℕ) → cond b (Some i) later ≡ Some place
    → (later ≡ Some place → place < i + 1 + length members) → place < i + suc (length members)
placed_by p true i members later place h rest = let same : i ≡ place = (cc) in omega (arith)
placed_by p false i members later place h rest = omega (arith, rest h)

placed : (p : Member → Bool) (i : ℕ) (members : List Member) (place : ℕ) → position_from p i members ≡ Some place → place < i + length members
placed p i [] place h = absurd (cc)
placed p i (member ∷ members) place h = placed_by p (p member) i members (position_from p (i + 1) members) place h (placed p (i + 1) members place)

named_found : (scope : Interface) (inner : List Entry) (name : Bytes) (place : ℕ) (found : Option Member) → find (is_named Types name) scope.members ≡ found
    → found ≡ slice_get scope.members place → place < length scope.members
    → IsTarget scope inner (Some place) (option_and_then shape_in (option_map (λ (m : Member). m.part) found))
named_found scope inner name place None is at within = absurd (not_none scope.members place within (sym at))
named_found scope inner name place (Some member) is at within =
    let named = first_true (is_space Types (space_of member.part)) _ (passes (is_named Types name) scope.members member is) in
    (first_body member.part, shape_of member.part named, at_place scope inner place member (sym at))

pub by_name : (scope : Interface) (inner : List Entry) (name : Bytes) (target : Option ℕ) → target ≡ position_from (is_named Types name) 0 scope.members
    → IsTarget scope inner target (type_named name scope)
by_name scope inner name None is = ap (λ (found : Option Member). option_and_then shape_in (option_map (λ (m : Member). m.part) found)) (found_by_place (is_named Types name) scope.members None is)
by_name scope inner name (Some place) is =
    named_found scope inner name place (find (is_named Types name) scope.members) refl (found_by_place (is_named Types name) scope.members (Some place) is)
    (omega (arith, placed (is_named Types name) 0 scope.members place (sym is)))

-- ---- tables

pub rows_more : (scope : Interface) (inner more : List Entry) (rows : List Targets) (members : List Member) → RowsTold scope inner rows members
    → RowsTold scope (inner ++ more) rows members
rows_more scope inner more [] [] h = tt
rows_more scope inner more (targets ∷ rows) (member ∷ members) (here, later) =
    (targets_more scope inner more targets (fields_of (first_body member.part)) here, rows_more scope inner more rows members later)
rows_more scope inner more [] (member ∷ members) h = absurd h
rows_more scope inner more (targets ∷ rows) [] h = absurd h

pub rows_along : (scope : Interface) (before after : List Entry) (rows : List Targets) (members : List Member) → Grown scope before after
    → RowsTold scope before rows members → RowsTold scope after rows members
rows_along scope before after rows members grown h =
    subst (λ (inner : List Entry). RowsTold scope inner rows members) (sym grown.more.1) (rows_more scope before grown.more.0 rows members h)

row_more : (scope : Interface) (inner : List Entry) (rows : List Targets) (members : List Member) (targets : Targets) (member : Member)
    → RowsTold scope inner rows members → AreTargets scope inner targets (fields_of (first_body member.part))
    → RowsTold scope inner (rows ++ targets ∷ []) (members ++ member ∷ [])
row_more scope inner [] [] targets member h here = (here, tt)
row_more scope inner (first ∷ rows) (one ∷ members) targets member (h, later) here = (h, row_more scope inner rows members targets member later here)
row_more scope inner [] (one ∷ members) targets member h here = absurd h
row_more scope inner (first ∷ rows) [] targets member h here = absurd h

pub row_next : (scope : Interface) (inner : List Entry) (rows : List Targets) (members : List Member) (i : ℕ) (targets : Targets) (member : Member)
    → i < length members → member ≡ get_or members i member
    → RowsTold scope inner rows (take i members) → AreTargets scope inner targets (fields_of (first_body member.part))
    → RowsTold scope inner (rows ++ targets ∷ []) (take (i + 1) members)
row_next scope inner rows members i targets member within at h here =
    subst (λ (some : List Member). RowsTold scope inner (rows ++ targets ∷ []) some)
    (sym (take_more members i member within ∙ ap (λ (m : Member). take i members ++ m ∷ []) (sym at))) (row_more scope inner rows (take i members) targets member h here)

row_at : (scope : Interface) (inner : List Entry) (rows : List Targets) (members : List Member) (i : ℕ) (body : Body) → RowsTold scope inner rows members
    → option_map (λ (member : Member). first_body member.part) (slice_get members i) ≡ Some body
    → AreTargets scope inner (or_none (slice_get rows i)) (fields_of body)
row_at scope inner [] [] i body h at = absurd (cc)
row_at scope inner (targets ∷ rows) (member ∷ members) zero body (here, later) at =
    let same : first_body member.part ≡ body = (cc) in subst (λ (b : Body). AreTargets scope inner targets (fields_of b)) same here
row_at scope inner (targets ∷ rows) (member ∷ members) (suc i) body (here, later) at = row_at scope inner rows members i body later at
row_at scope inner [] (member ∷ members) i body h at = absurd h
row_at scope inner (targets ∷ rows) [] i body h at = absurd h

entry_at : (scope : Interface) (inner : List Entry) (found : Option Entry) (body : Body)
    → ((entry : Entry) → found ≡ Some entry → AreTargets scope inner entry.targets (fields_of entry.body.now))
    → option_map (λ (entry : Entry). entry.body.now) found ≡ Some body
    → AreTargets scope inner (or_none (option_map (λ (entry : Entry). entry.targets) found)) (fields_of body)
entry_at scope inner None body told at = absurd (cc)
entry_at scope inner (Some entry) body told at =
    let same : entry.body.now ≡ body = (cc) in subst (λ (b : Body). AreTargets scope inner entry.targets (fields_of b)) same (told entry refl)

either : (scope : Interface) (inner : List Entry) (b : Bool) (one other : Option Body) (left right : Targets) (body : Body)
    → (one ≡ Some body → AreTargets scope inner left (fields_of body)) → (other ≡ Some body → AreTargets scope inner right (fields_of body))
    → cond b one other ≡ Some body → AreTargets scope inner (cond b left right) (fields_of body)
either scope inner true one other left right body f g h = f h
either scope inner false one other left right body f g h = g h

pub table_targets : (table : Table) (number : ℕ) (body : Body) → IsTable table → body_at table.scope.now table.inner.items number ≡ Some body
    → AreTargets table.scope.now table.inner.items (targets_at table.scope.now table.named.items table.inner.items number) (fields_of body)
table_targets table number body is h =
    let scope = table.scope.now in
    let place = number - length scope.members in
    either scope table.inner.items (nat_lt number (length scope.members)) _ _ _ _ body
    (row_at scope table.inner.items table.named.items scope.members number body is.rows)
    (entry_at scope table.inner.items (slice_get table.inner.items place) body (λ entry at. is.told place entry at)) h

pub none_told : (scope : Interface) → AllTold scope []
none_told scope place entry h = absurd (cc)

pub on_ok : {A E : Type 0} {P Q : Type 0} (r : Result A E) → (P → Q) → OnOk r P → OnOk r Q
on_ok (Ok x) f h = f h
on_ok (Err e) f h = tt
