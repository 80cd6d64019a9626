use Rattle.std.proofs.Common.{◌∙◌, sym, subst, arith, List, take}
use Rattle.idl_compat.specs.Within.{Step, field_steps, field_step, field_named}
use Rattle.idl_compat.specs.Walks.{AllSettled}
use Rattle.idl_compat.proofs.Looking.{moved_same}
use Rattle.idl_compat.proofs.Visiting.{moved_on, same_length, target_or, steps_moved, one_field, looked_stop, looked_none, all_kept, settled_both, steps_next}
use Rattle.idl_compat.proofs.looks.look_at_fields.Goals as goal

pub loop-i-init : goal.loop-i-init
loop-i-init c = record { moved = moved_same c.args.walk.now.from.now c.args.walk.now.to.now c.args.seen.now c.args.trail.now.items; settled = tt }

pub bounds-targets-i : goal.bounds-targets-i
bounds-targets-i c =
    let to = c.args.walk.now.to.now in
    omega (arith, same_length to.scope.now to.inner.items c.args.targets.now c.args.others.now c.requires.read, c.loop-i-test.true)

pub look_at_field-requires-clause-read : goal.look_at_field-requires-clause-read
look_at_field-requires-clause-read c =
    let to = c.args.walk.now.to.now in
    target_or to.scope.now to.inner.items c.args.targets.now c.args.others.now c.loop-i.i c.index-others-i.result c.requires.read c.loop-i-test.true c.index-others-i.is

pub look_at_field-requires-clause-steps : goal.look_at_field-requires-clause-steps
look_at_field-requires-clause-steps c = λ step among.
    steps_moved c.args.walk.now.from.now c.args.walk.now.to.now c.args.seen.now c.loop-i.seen c.args.trail.now.items c.loop-i.trail.items c.args.place
    (field_steps c.args.given.now.fields.now c.args.others.now) c.loop-i.invariant.moved c.requires.steps step
    (one_field c.args.given.now.fields.now c.args.others.now c.loop-i.i c.index-others-i.result c.loop-i-test.true c.index-others-i.is step among)

pub returns-then-is_some-clause-moved : goal.returns-then-is_some-clause-moved
returns-then-is_some-clause-moved c =
    moved_on c.args.walk.now.from.now c.args.walk.now.to.now c.args.seen.now c.loop-i.seen c.look_at_field.new.seen c.args.trail.now.items c.loop-i.trail.items c.look_at_field.new.trail.items
    c.loop-i.invariant.moved c.in_ok-found.ensures.moved

pub returns-then-is_some-clause-looked : goal.returns-then-is_some-clause-looked
returns-then-is_some-clause-looked c =
    looked_stop c.args.walk.now.from.now c.args.walk.now.to.now c.look_at_field.new.seen (field_step (field_named c.index-others-i.result.name c.args.given.now.fields.now) c.index-others-i.result)
    (field_steps c.args.given.now.fields.now c.args.others.now) c.in_ok-found.found (sym c.is_some.ensures ∙ c.if-is_some.true)
    (one_field c.args.given.now.fields.now c.args.others.now c.loop-i.i c.index-others-i.result c.loop-i-test.true c.index-others-i.is)
    c.in_ok-found.ensures.looked

pub loop-i-preserved : goal.loop-i-preserved
loop-i-preserved c =
    let from = c.args.walk.now.from.now in
    let to = c.args.walk.now.to.now in
    let seen = c.look_at_field.new.seen in
    let given = c.args.given.now.fields.now in
    let here = field_step (field_named c.index-others-i.result.name given) c.index-others-i.result in
    let before = field_steps given (take c.loop-i.i c.args.others.now) in
    record {
      moved = moved_on from to c.args.seen.now c.loop-i.seen seen c.args.trail.now.items c.loop-i.trail.items c.look_at_field.new.trail.items
          c.loop-i.invariant.moved c.in_ok-found.ensures.moved;
      settled = subst (λ (steps : List Step). AllSettled from to seen steps)
          (sym (steps_next given c.args.others.now c.loop-i.i c.index-others-i.result c.loop-i-test.true c.index-others-i.is))
          (settled_both from to seen before here
          (all_kept from to c.loop-i.seen seen c.in_ok-found.ensures.moved.kept before c.loop-i.invariant.settled)
          (looked_none from to seen here c.in_ok-found.found (sym c.is_some.ensures ∙ c.if-is_some.false) c.in_ok-found.ensures.looked));
    }
