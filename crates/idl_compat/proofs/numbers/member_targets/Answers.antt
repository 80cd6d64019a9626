use Rattle.std.proofs.Common.{◌≡◌, ◌+◌, ◌<◌, List, take, length, get_or, sym, ap, ◌∙◌, subst}
use Rattle.idl_tree.specs.declared.trees.Interface.{Interface}
use Rattle.idl_tree.specs.declared.trees.Member.{Member}
use Rattle.idl_tree.specs.declared.trees.Body.{Body}
use Rattle.typed_value.specs.Bodies.{fields_of}
use Rattle.idl_compat.specs.Numbers.{RowsTold, AreTargets, Targets}
use Rattle.idl_compat.proofs.Numbering.{row_next, rows_along}
use Rattle.idl_compat.proofs.numbers.member_targets.Goals as goal

pub loop-member-preserved : goal.loop-member-preserved
loop-member-preserved c =
    let scope = c.args.scope.now in
    let inner = c.targets.new.inner.items in
    let i = c.loop-member.member-index in
    let member = c.member-item.result in
    let grown = c.in_ok-targets.ensures.grown in
    let list = c.as_slice-member-items.ensures ∙ ap (λ (tree : Interface). tree.members) c.tree.ensures.tree in
    let within = subst (λ (members : List Member). i < length members) list c.loop-member-test.true in
    let at = subst (λ (members : List Member). member ≡ get_or members i member) list c.member-item.is in
    let told = subst (λ (body : Body). AreTargets scope inner c.in_ok-targets.field-0 (fields_of body)) c.first_body.ensures c.in_ok-targets.ensures.told in
    record {
      told = grown.told;
      rows = subst (λ (rows : List Targets). RowsTold scope inner rows (take (i + 1) scope.members)) (sym c.in_ok-push.ensures.ok)
          (row_next scope inner c.loop-member.named scope.members i _ member within at
          (rows_along scope c.loop-member.inner.items inner c.loop-member.named (take i scope.members) grown c.loop-member.invariant.rows) told);
    }
