use Rattle.std.proofs.Common.{◌≡◌, ◌∙◌, ◌+◌, Option, Some, List, length, take, sym, ap, subst, arith}
use Rattle.idl_tree.specs.declared.trees.Core.{Core}
use Rattle.idl_tree.specs.declared.trees.Core.TheVariants.{outs-Name}
use Rattle.idl_tree.specs.declared.trees.Interface.{Interface}
use Rattle.idl_tree.specs.declared.trees.Body.{Body}
use Rattle.typed_value.specs.Bodies.{body_in, body_of}
use Rattle.idl_compat.specs.Numbers.{Grown, AreTargets, IsTarget, Targets, body_at}
use Rattle.idl_compat.specs.declared.numbers.Entry.{Entry}
use Rattle.idl_compat.proofs.Numbering.{grown_on, grown_by, here_last, are_next, targets_along, by_name}
use Rattle.idl_compat.proofs.numbers.+numbers.Goals as goal

pub number-returns-in-Some-clause-grown : goal.number-returns-in-Some-clause-grown
number-returns-in-Some-clause-grown t c =
    subst (λ (inner : List Entry). Grown c.args.scope.now c.args.inner.now.items inner) (sym c.in_ok-add_entry.ensures)
    (grown_by c.args.scope.now c.args.inner.now.items c.targets.new.inner.items _ c.in_ok-targets.ensures.grown c.in_ok-targets.ensures.told)

pub number-returns-in-Some-clause-here : goal.number-returns-in-Some-clause-here
number-returns-in-Some-clause-here t c =
    subst (λ (inner : List Entry). body_at c.args.scope.now inner c.in-Some.number ≡ Some c.args.body.now) (sym c.in_ok-add_entry.ensures)
    (here_last c.args.scope.now c.targets.new.inner.items _ c.in-Some.number
    (omega (arith, c.in-Some.ensures.1, ap length c.as_slice.ensures, ap (λ (tree : Interface). length tree.members) c.tree.ensures.tree, c.len-place.ensures)))

pub target-returns-in-Name-clause-told : goal.target-returns-in-Name-clause-told
target-returns-in-Name-clause-told t c =
    let core = ap (λ (core : Core). body_of c.args.scope.now core) c.in-Name.is ∙ ap (body_in c.args.scope.now) (outs-Name c.in-Name.name) in
    subst (λ (found : Option Body). IsTarget c.args.scope.now c.args.inner.now.items c.type_place.result found) (sym core)
    (by_name c.args.scope.now c.args.inner.now.items c.in-Name.name c.type_place.result (rw c.as_str.ensures at c.type_place.ensures))

pub field_targets-loop-field-preserved : goal.field_targets-loop-field-preserved
field_targets-loop-field-preserved t c =
    let scope = c.args.scope.now in
    let grown = c.in_ok-target.ensures.grown in
    record {
      grown = grown_on scope c.args.inner.now.items c.loop-field.inner.items c.target.new.inner.items c.loop-field.invariant.grown grown;
      are = subst (λ (targets : Targets). AreTargets scope c.target.new.inner.items targets (take (c.loop-field.field-index + 1) c.args.fields.now)) (sym c.in_ok-push.ensures.ok)
          (are_next scope c.target.new.inner.items c.loop-field.targets c.args.fields.now c.loop-field.field-index _ c.field-item.result c.loop-field-test.true c.field-item.is
          (targets_along scope c.loop-field.inner.items c.target.new.inner.items c.loop-field.targets (take c.loop-field.field-index c.args.fields.now) grown c.loop-field.invariant.are)
          c.in_ok-target.ensures.told);
    }
