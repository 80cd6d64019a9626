use Rattle.sheet_draft.proofs.Rests.{each_more}
use Rattle.sheet_draft.proofs.rules.read_guards.Goals as goal

pub loop-value-preserved : goal.loop-value-preserved
loop-value-preserved c =
    let left = rw c.in-Some.ensures at c.loop-value.invariant in
    rw c.in_ok-push-in-Ok.ensures.ok (each_more _ _ c.loop-value.guards c.in-Ok.guard c.in-Some.value c.next.new.self _ left c.in-Ok.ensures)
