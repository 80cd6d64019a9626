-- visits of pairs of bodies, by their kinds
use Rattle.std.proofs.Common.{◌≡◌, ℕ, Bool, true, false, List, [], Option, Some, None, is_none, refl, sym, ap, ◌∙◌, subst}
use Rattle.std.specs.Prelude.{Result, Ok, Err, IfOk, if◌then◌else◌}
use Rattle.idl_tree.specs.Names.{Bytes}
use Rattle.idl_tree.specs.declared.trees.Named.{Named}
use Rattle.idl_tree.specs.declared.trees.Field.{Field}
use Rattle.idl_tree.specs.declared.trees.Body.{Body, out-Body}
use Rattle.idl_tree.specs.declared.trees.Body.TheVariants.{Struct, Enum, outs-Struct, outs-Enum}
use Rattle.idl_compat.specs.Within.{Step, Line, Among, nothing_where, steps_of, body_line, field_steps, has_all, leads_to_failure, bodies}
use Rattle.idl_compat.specs.Walks.{Seen, scopes_of, IsVisit, AreStepsAt, IsSettledLine, LookedAll, Visited, HasVisited}
use Rattle.idl_compat.specs.declared.numbers.Table.{Table}
use Rattle.idl_compat.specs.declared.visits.Visit.{Visit}
use Rattle.idl_compat.specs.declared.visits.Stop.{Stop}
use Rattle.idl_compat.specs.declared.visits.Stop.TheVariants.{Here}
use Rattle.idl_compat.proofs.Chains.{step_fails, line_fails}
use Rattle.idl_compat.proofs.Looking.{bodies_line}
use Rattle.std.proofs.Common.{option_map, is_some, nat_lt, length, get_or, slice_get, MatchOption}
use Rattle.std.proofs.lemmas.Bool.{ltb-true}
use Rattle.std.proofs.lemmas.Option.{slice_get-get_or}
use Rattle.std.specs.Borrow.{Bor}
use Rattle.typed_value.specs.Bodies.{fields_of}
use Rattle.idl_compat.specs.Numbers.{Targets, AreTargets, IsTable, body_at, targets_at}
use Rattle.idl_compat.proofs.Numbering.{table_targets}

pub structs_line : (fields others : List Field) (ending other : List Bytes)
    → body_line (out-Body (Struct fields ending)) (out-Body (Struct others other)) ≡ Some (field_steps fields others)
structs_line fields others ending other = rw (outs-Struct, outs-Struct) refl

pub enums_line : (names others : List Named) (ending other : List Bytes)
    → body_line (out-Body (Enum names ending)) (out-Body (Enum others other)) ≡ nothing_where (has_all names others)
enums_line names others ending other = rw (outs-Enum, outs-Enum) refl

pub struct_enum_line : (fields : List Field) (names : List Named) (ending other : List Bytes)
    → body_line (out-Body (Struct fields ending)) (out-Body (Enum names other)) ≡ None
struct_enum_line fields names ending other = rw (outs-Struct, outs-Enum) refl

pub enum_struct_line : (names : List Named) (fields : List Field) (ending other : List Bytes)
    → body_line (out-Body (Enum names ending)) (out-Body (Struct fields other)) ≡ None
enum_struct_line names fields ending other = rw (outs-Struct, outs-Enum) refl

module _ (from to : Table) (body reads : Body) where
  pub steps_at : (trail : List Visit) (place : ℕ) (steps : List Step) → body_line (out-Body body) (out-Body reads) ≡ Some steps
      → IsVisit from to trail place body reads → AreStepsAt from to trail place steps
  steps_at trail place steps is visit step among = record {
    body = body;
    reads = reads;
    visit = visit;
    among = subst (λ (l : Line). Among step (steps_of l)) (sym is) among;
  }

  pub visited_by : (seen : Seen) (steps : List Step) (found : Option Stop) → body_line (out-Body body) (out-Body reads) ≡ Some steps
      → LookedAll from to seen steps found → Visited from to seen body reads found
  visited_by seen steps None is settled = subst (λ (l : Line). IsSettledLine from to seen l) (sym is) settled
  visited_by seen steps (Some stop) is (step, among, (tail, words, leads)) =
      subst (λ (ws : List Bytes). leads_to_failure (scopes_of from to) ws (Some (bodies body reads)) ≡ true) (sym words)
      (step_fails (scopes_of from to) (bodies body reads) step tail
      (subst (λ (l : Line). Among step (steps_of l)) (sym (bodies_line (scopes_of from to) body reads ∙ is)) among) leads)

  pub visited_if : {E : Type 0} (seen : Seen) (steps : List Step) (r : Result (Option Stop) E) → body_line (out-Body body) (out-Body reads) ≡ Some steps
      → IfOk r (LookedAll from to seen steps) → IfOk r (Visited from to seen body reads)
  visited_if seen steps (Ok found) is looked = visited_by seen steps found is looked
  visited_if seen steps (Err e) is looked = tt

  pub stops_here : body_line (out-Body body) (out-Body reads) ≡ None → leads_to_failure (scopes_of from to) [] (Some (bodies body reads)) ≡ true
  stops_here is = line_fails (scopes_of from to) (bodies body reads) (ap is_none (bodies_line (scopes_of from to) body reads ∙ is))

  pub visited_where : (seen : Seen) (holds : Bool) (found : Option Stop) → body_line (out-Body body) (out-Body reads) ≡ nothing_where holds
      → found ≡ (if holds then None else Some Here) → Visited from to seen body reads found
  visited_where seen true found is there = subst (Visited from to seen body reads) (sym there) (subst (λ (l : Line). IsSettledLine from to seen l) (sym is) tt)
  visited_where seen false found is there = subst (Visited from to seen body reads) (sym there) (stops_here is)

pub line_of : (body reads one other : Body) → body ≡ one → reads ≡ other → body_line (out-Body body) (out-Body reads) ≡ body_line (out-Body one) (out-Body other)
line_of body reads one other is by = λ i. body_line (out-Body (is i)) (out-Body (by i))

pub has_visited : {E : Type 0} (from to : Table) (seen : Seen) (trail : List Visit) (place : ℕ) (body reads : Body) (r : Result (Option Stop) E)
    → IsVisit from to trail place body reads → IfOk r (Visited from to seen body reads) → IfOk r (HasVisited from to seen trail place)
has_visited from to seen trail place body reads (Ok found) visit visited = record { body = body; reads = reads; visit = visit; visited = visited }
has_visited from to seen trail place body reads (Err e) visit visited = tt

pub now_some : {X : Type 0} (there : Option X) (found : Option (Bor X)) (x : Bor X) → option_map (λ y. y.now) found ≡ there → found ≡ Some x → there ≡ Some x.now
now_some {X = X} there found x is some = sym is ∙ ap (λ (o : Option (Bor X)). option_map (λ y. y.now) o) some

-- what a slice gives at a place
abbrev pub Gets : {X : Type 0} → List X → ℕ → Option (Bor X) → Type 0
Gets xs i found = (is_some found ≡ nat_lt i (length xs)) × MatchOption found (Unit {0}) (λ y. y.now ≡ get_or xs i y.now)

pub got : {X : Type 0} (xs : List X) (i : ℕ) (found : Option (Bor X)) (x : Bor X) → Gets xs i found → found ≡ Some x → slice_get xs i ≡ Some x.now
got {X = X} xs i found x gets is =
    let here : Gets xs i (Some x) = subst (λ (o : Option (Bor X)). Gets xs i o) is gets in
    slice_get-get_or xs i x.now (ltb-true i (length xs) (sym here.0)) ∙ ap (λ (y : X). Some y) (sym here.1)

pub targets_of : (table : Table) (n : ℕ) (body : Bor Body) (found : Option (Bor Body)) (targets : Targets) → IsTable table
    → option_map (λ b. b.now) found ≡ body_at table.scope.now table.inner.items n → found ≡ Some body
    → targets ≡ targets_at table.scope.now table.named.items table.inner.items n → AreTargets table.scope.now table.inner.items targets (fields_of body.now)
targets_of table n body found targets is there some at =
    subst (λ (ts : Targets). AreTargets table.scope.now table.inner.items ts (fields_of body.now)) (sym at)
    (table_targets table n body.now is (now_some (body_at table.scope.now table.inner.items n) found body there some))
