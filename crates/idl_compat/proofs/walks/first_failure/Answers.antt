use Rattle.std.proofs.Common.{◌<◌, arith, refl, sym, ap, subst, [], List, length, None}
use Rattle.idl_compat.specs.Walks.{Added, HasVisited, IsTrail}
use Rattle.idl_compat.specs.declared.visits.Visit.{Visit}
use Rattle.std.proofs.lemmas.List.{length-append}
use Rattle.idl_compat.proofs.Looking.{added_here}
use Rattle.idl_compat.proofs.Walked.{walk_starts, walk_goes_on, visit_waits, has_trail, walk_ends, root_within, stops_after, trail_after}
use Rattle.idl_compat.proofs.walks.first_failure.Goals as goal

pub loop-place-init : goal.loop-place-init
loop-place-init c =
    let first : Visit = record { from = c.args.root.0; to = c.args.root.1; origin = None } in
    let added = subst (λ (before : List Visit). Added c.args.seen.now c.add_visit.new.seen before c.add_visit.new.trail.items first) c.new-trail.ensures.items c.in_ok-add_visit.ensures in
    record {
      walking = λ root by at. walk_starts c.args.walk.now.from.now c.args.walk.now.to.now c.args.seen.now c.add_visit.new.seen c.add_visit.new.trail.items first root by refl added at;
      root_seen = added_here c.args.seen.now c.add_visit.new.seen [] c.add_visit.new.trail.items first added;
      within = omega arith;
    }

pub visit-requires-clause-at : goal.visit-requires-clause-at
visit-requires-clause-at c =
    let root = c.requires.root in
    visit_waits c.args.walk.now.from.now c.args.walk.now.to.now root.body root.reads c.args.seen.now c.loop-place.seen c.loop-place.trail.items c.loop-place.place
    (omega (arith, c.loop-place-test.true, c.len.ensures, c.loop-place.trail.ok))
    (c.loop-place.invariant.walking root.body root.reads root.at)

pub path-requires-clause-trail : goal.path-requires-clause-trail
path-requires-clause-trail c =
    let root = c.requires.root in
    rw c.as_slice.ensures.value
    (has_trail c.args.walk.now.from.now c.args.walk.now.to.now root.body root.reads c.args.seen.now c.loop-place.seen c.visit.new.seen c.loop-place.trail.items c.visit.new.trail.items c.loop-place.place
    (omega (arith, c.loop-place-test.true, c.len.ensures, c.loop-place.trail.ok))
    (c.loop-place.invariant.walking root.body root.reads root.at) c.in_ok-stop.ensures.moved)

pub path-requires-clause-stops : goal.path-requires-clause-stops
path-requires-clause-stops c =
    rw c.as_slice.ensures.value
    (stops_after c.args.walk.now.from.now c.args.walk.now.to.now c.loop-place.seen c.visit.new.seen c.loop-place.trail.items c.visit.new.trail.items c.loop-place.place c.in-Some.stop c.in_ok-stop.field-0
    (omega (arith, c.loop-place-test.true, c.len.ensures, c.loop-place.trail.ok)) c.in_ok-stop.ensures.moved c.in_ok-stop.ensures.visited c.in-Some.is)

pub returns-in-Some-clause-found : goal.returns-in-Some-clause-found
returns-in-Some-clause-found c = λ body reads at.
    c.in_ok-path-in-Some.ensures body reads
    (subst (λ (t : List Visit). IsTrail c.args.walk.now.from.now c.args.walk.now.to.now body reads t) (sym c.as_slice.ensures.value)
    (trail_after c.args.walk.now.from.now c.args.walk.now.to.now body reads c.args.seen.now c.loop-place.seen c.visit.new.seen c.loop-place.trail.items c.visit.new.trail.items c.loop-place.place
    (c.loop-place.invariant.walking body reads at) c.in_ok-stop.ensures.moved))

pub loop-place-preserved : goal.loop-place-preserved
loop-place-preserved c =
    let below : c.loop-place.place < length c.loop-place.trail.items = omega (arith, c.loop-place-test.true, c.len.ensures, c.loop-place.trail.ok) in
    record {
      walking = λ root by at. walk_goes_on c.args.walk.now.from.now c.args.walk.now.to.now root by c.args.seen.now c.loop-place.seen c.visit.new.seen c.loop-place.trail.items c.visit.new.trail.items
          c.loop-place.place below (c.loop-place.invariant.walking root by at) c.in_ok-stop.ensures.moved
          (subst (HasVisited c.args.walk.now.from.now c.args.walk.now.to.now c.visit.new.seen c.loop-place.trail.items c.loop-place.place) c.in-None.is c.in_ok-stop.ensures.visited);
      root_seen = c.in_ok-stop.ensures.moved.kept c.args.root.0 c.args.root.1 c.loop-place.invariant.root_seen;
      within = omega (arith, below, ap length c.in_ok-stop.ensures.moved.more.1, length-append c.loop-place.trail.items c.in_ok-stop.ensures.moved.more.0);
    }

pub returns-clause-found : goal.returns-clause-found
returns-clause-found c = λ body reads at.
    root_within c.args.walk.now.from.now c.args.walk.now.to.now c.loop-place.seen c.args.root.0 c.args.root.1 body reads
    (walk_ends c.args.walk.now.from.now c.args.walk.now.to.now body reads c.args.seen.now c.loop-place.seen c.loop-place.trail.items c.loop-place.place
    (c.loop-place.invariant.walking body reads at) (omega (arith, c.loop-place-test.false, c.len.ensures, c.loop-place.trail.ok)) c.requires.within)
    c.loop-place.invariant.root_seen at

pub returns-clause-within : goal.returns-clause-within
returns-clause-within c = λ same.
    walk_ends c.args.walk.now.from.now c.args.walk.now.to.now c.requires.root.body c.requires.root.reads c.args.seen.now c.loop-place.seen c.loop-place.trail.items c.loop-place.place
    (c.loop-place.invariant.walking c.requires.root.body c.requires.root.reads c.requires.root.at) (omega (arith, c.loop-place-test.false, c.len.ensures, c.loop-place.trail.ok)) c.requires.within
