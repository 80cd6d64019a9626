use Rattle.std.proofs.Common.{sym, ◌∙◌}
use Rattle.sheet_draft.specs.Rules.{branches_in}
use Rattle.expression_draft.proofs.Rests.{after_more}
use Rattle.sheet_draft.proofs.branches.branches_in.Goals as goal

pub loop-value-preserved : goal.loop-value-preserved
loop-value-preserved c =
    let left = rw c.in-Some.ensures at c.loop-value.invariant in
    let read = rw (← c.is_empty.ensures, c.in_ok-branch.ensures) at left in
    rw c.in_ok-push.ensures.ok (sym (after_more c.loop-value.branches c.in_ok-branch.branch (branches_in c.next.new.self)) ∙ read)
