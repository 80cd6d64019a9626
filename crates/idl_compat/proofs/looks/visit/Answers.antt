use Rattle.idl_compat.proofs.ByKinds.{has_visited, targets_of, now_some, got}
use Rattle.idl_compat.proofs.looks.visit.Goals as goal

pub visit_bodies-requires-clause-given : goal.visit_bodies-requires-clause-given
visit_bodies-requires-clause-given c =
    targets_of c.args.walk.now.from.now c.in-Some.at.now.from c.in-Some-body.body c.body.result c.targets.result.now c.requires.from c.body.ensures c.in-Some-body.is c.targets.ensures

pub visit_bodies-requires-clause-read : goal.visit_bodies-requires-clause-read
visit_bodies-requires-clause-read c =
    targets_of c.args.walk.now.to.now c.in-Some.at.now.to c.in-Some-body-2.reads c.body-2.result c.targets-2.result.now c.requires.to c.body-2.ensures c.in-Some-body-2.is c.targets-2.ensures

pub visit_bodies-requires-clause-at : goal.visit_bodies-requires-clause-at
visit_bodies-requires-clause-at c = (
  c.in-Some.at.now,
  got c.args.trail.now.items c.args.place c.get.result c.in-Some.at (let l = rw c.deref.ensures.value at c.get.ensures.lookup in (l.0, l.1)) c.in-Some.is,
  (now_some _ c.body.result c.in-Some-body.body c.body.ensures c.in-Some-body.is, now_some _ c.body-2.result c.in-Some-body-2.reads c.body-2.ensures c.in-Some-body-2.is),
)

pub returns-clause-visited : goal.returns-clause-visited
returns-clause-visited c =
    has_visited c.args.walk.now.from.now c.args.walk.now.to.now c.visit_bodies.new.seen c.args.trail.now.items c.args.place c.in-Some-body.body.now c.in-Some-body-2.reads.now c.visit_bodies.result (
      c.in-Some.at.now,
      got c.args.trail.now.items c.args.place c.get.result c.in-Some.at (let l = rw c.deref.ensures.value at c.get.ensures.lookup in (l.0, l.1)) c.in-Some.is,
      (now_some _ c.body.result c.in-Some-body.body c.body.ensures c.in-Some-body.is, now_some _ c.body-2.result c.in-Some-body-2.reads c.body-2.ensures c.in-Some-body-2.is),
    )
    c.visit_bodies.ensures.visited
