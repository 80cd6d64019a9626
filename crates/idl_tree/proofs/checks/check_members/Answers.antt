use Rattle.std.proofs.Common.{sym, ◌∙◌, subst}
use Rattle.idl_tree.specs.Faults.{Found, Reports}
use Rattle.idl_tree.proofs.MemberNames.{found_by_index, here_reported, past_here}
use Rattle.idl_tree.proofs.checks.check_members.Goals as goal

pub returns-in-Err : goal.returns-in-Err
returns-in-Err c =
    let members = c.args.members.now in
    let i = c.loop-place.place in
    let member = c.index-members-place.result in
    let found = found_by_index members i member c.loop-place-test.true c.index-members-place.is c.loop-place.invariant c.args.index.now c.requires in
    here_reported members i member c.loop-place-test.true c.index-members-place.is c.loop-place.invariant c.in-Err.fault
    (subst (λ (f : Found). Reports c.in-Err.fault f) found c.in-Err.ensures)

pub loop-place-preserved : goal.loop-place-preserved
loop-place-preserved c =
    let members = c.args.members.now in
    let i = c.loop-place.place in
    let member = c.index-members-place.result in
    let found = found_by_index members i member c.loop-place-test.true c.index-members-place.is c.loop-place.invariant c.args.index.now c.requires in
    past_here members i member c.loop-place-test.true c.index-members-place.is c.loop-place.invariant (sym found ∙ c.in_default.ensures)
