use Rattle.std.proofs.Common.{◌≡◌, ◌∙◌, [], ◌∷◌, ◌++◌, List, take, length, is_none, true, sym, ap, refl, Some, inl, inr, subst}
use Rattle.std.proofs.lemmas.List.{append-nil}
use Rattle.idl_tree.specs.Names.{Bytes}
use Rattle.idl_tree.specs.declared.trees.Prefix.{Prefix}
use Rattle.idl_compat.specs.Within.{Pair, leads_to_failure, kind_of, nothing_where}
use Rattle.idl_compat.specs.Walks.{scopes_of, words_of, IsJoined}
use Rattle.idl_compat.specs.declared.visits.Visit.{Visit}
use Rattle.idl_compat.proofs.Chains.{line_fails}
use Rattle.idl_compat.proofs.Looking.{moved_same, stuck_fails, met_leads, moved_added, target_is, step_leads, added_here, within_list, visit_more, take_all}
use Rattle.idl_compat.proofs.looks.look_at_types.Goals as goal

pub returns-in-Some-clause-moved : goal.returns-in-Some-clause-moved
returns-in-Some-clause-moved c = moved_same c.args.walk.now.from.now c.args.walk.now.to.now c.args.seen.now c.args.trail.now.items

pub returns-in-Some-clause-looked : goal.returns-in-Some-clause-looked
returns-in-Some-clause-looked c =
    let from = c.args.given.now.field.now.of in
    let to = c.args.read.now.field.now.of in (
      _,
      refl,
      stuck_fails (scopes_of c.args.walk.now.from.now c.args.walk.now.to.now) from.core to.core to.prefixes from.prefixes c.in-Some.count
          (sym (rw (c.as_slice-to.ensures, c.as_slice.ensures) at c.stuck.ensures) ∙ c.in-Some.is),
    )

pub returns-in-Some-Some-clause-moved : goal.returns-in-Some-Some-clause-moved
returns-in-Some-Some-clause-moved c =
    let from = c.args.walk.now.from.now in
    let to = c.args.walk.now.to.now in
    let trail = c.args.trail.now.items in
    let step = c.requires.step in
    let given = target_is from.scope.now from.inner.items c.args.given.now.target _ c.in-Some-Some.n c.in-Some-Some.is-0 c.requires.given in
    let read = target_is to.scope.now to.inner.items c.args.read.now.target _ c.in-Some-Some.m c.in-Some-Some.is-1 c.requires.read in
    let stop = sym (rw (c.as_slice-to.ensures, c.as_slice.ensures) at c.stuck.ensures) ∙ c.in_default.is in
    let visit : Visit = record { from = c.in-Some-Some.n; to = c.in-Some-Some.m; origin = Some (c.args.place, c.args.read.now.field) } in
    let joined : IsJoined from to (trail ++ visit ∷ []) (length trail) visit = record {
      body = given.0;
      reads = read.0;
      at = (given.2, read.2);
      origin = (c.args.place, c.args.read.now.field);
      is = refl;
      comes = record {
        before = within_list trail c.args.place step.visit.0 step.visit.1;
        body = step.body;
        reads = step.reads;
        visit = visit_more from to trail (visit ∷ []) c.args.place step.body step.reads step.visit;
        leads = step_leads (scopes_of from to) step.body step.reads given.0 read.0 c.args.given.now.field.now c.args.read.now.field.now step.among stop given.1 read.1;
      };
    } in
    moved_added from to c.args.seen.now c.add_visit.new.seen trail c.add_visit.new.trail.items visit given.0 read.0 (given.2, read.2) joined c.in_ok-add_visit.ensures

pub returns-in-Some-Some-clause-looked : goal.returns-in-Some-Some-clause-looked
returns-in-Some-Some-clause-looked c =
    let from = c.args.walk.now.from.now in
    let to = c.args.walk.now.to.now in
    let given = target_is from.scope.now from.inner.items c.args.given.now.target _ c.in-Some-Some.n c.in-Some-Some.is-0 c.requires.given in
    let read = target_is to.scope.now to.inner.items c.args.read.now.target _ c.in-Some-Some.m c.in-Some-Some.is-1 c.requires.read in
    let stop = sym (rw (c.as_slice-to.ensures, c.as_slice.ensures) at c.stuck.ensures) ∙ c.in_default.is in (
      _,
      refl,
      (
        stop,
        inr (record {
          n = c.in-Some-Some.n;
          m = c.in-Some-Some.m;
          body = given.0;
          reads = read.0;
          is_seen = added_here c.args.seen.now c.add_visit.new.seen c.args.trail.now.items c.add_visit.new.trail.items _ c.in_ok-add_visit.ensures;
          at = (given.2, read.2);
          given = given.1;
          read = read.1;
        }),
      ),
    )

pub returns-then-agree-clause-moved : goal.returns-then-agree-clause-moved
returns-then-agree-clause-moved c = moved_same c.args.walk.now.from.now c.args.walk.now.to.now c.args.seen.now c.args.trail.now.items

pub returns-then-agree-clause-looked : goal.returns-then-agree-clause-looked
returns-then-agree-clause-looked c =
    let stop = sym (rw (c.as_slice-to.ensures, c.as_slice.ensures) at c.stuck.ensures) ∙ c.in_default.is in
    (_, refl, (stop, inl (c.agree.ensures ∙ ap nothing_where c.if-agree.true)))

pub returns-clause-moved : goal.returns-clause-moved
returns-clause-moved c = moved_same c.args.walk.now.from.now c.args.walk.now.to.now c.args.seen.now c.args.trail.now.items

pub returns-clause-looked : goal.returns-clause-looked
returns-clause-looked c =
    let from = c.args.given.now.field.now.of in
    let to = c.args.read.now.field.now.of in
    let scopes = scopes_of c.args.walk.now.from.now c.args.walk.now.to.now in
    let stop = sym (rw (c.as_slice-to.ensures, c.as_slice.ensures) at c.stuck.ensures) ∙ c.in_default.is in
    let whole = ap (λ (ps : List Prefix). take (length ps) to.prefixes) c.as_slice-to.ensures ∙ take_all to.prefixes in
    let fails = line_fails scopes (([], from.core), ([], to.core)) (ap is_none (c.agree.ensures ∙ ap nothing_where c.if-agree.false)) in
    let leads = met_leads scopes from.core to.core to.prefixes from.prefixes [] stop fails in
    let pair : Pair = (kind_of c.args.given.now.field.now, kind_of c.args.read.now.field.now) in
    (_, refl, subst (λ (words : List Bytes). leads_to_failure scopes words (Some pair) ≡ true) (append-nil (words_of to.prefixes) ∙ sym (ap words_of whole)) leads)
