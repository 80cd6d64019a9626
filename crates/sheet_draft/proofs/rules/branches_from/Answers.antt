use Rattle.sheet_draft.proofs.Rests.{branch_more}
use Rattle.sheet_draft.proofs.rules.branches_from.Goals as goal

pub loop-part-preserved : goal.loop-part-preserved
loop-part-preserved c =
    let left = rw c.in-Some.ensures.steps.0 at c.loop-part.invariant in
    let read = rw c.len-place.ensures at c.in_ok-branch.ensures in
    rw c.in_ok-push.ensures.ok (branch_more c.args.name.now c.loop-part.branches c.in_ok-branch.branch c.in-Some.part _ _ left read)
