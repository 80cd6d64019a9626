use Rattle.std.proofs.Common.{length, ap, ◌∙◌}
use Rattle.std.proofs.lemmas.List.{length-map}
use Rattle.idl_tree.specs.Floats.{member_has_float}
use Rattle.idl_tree.proofs.Reaching.{marks_tell}
use Rattle.idl_tree.proofs.floats.mark_floats.Goals as goal

pub returns : goal.returns
returns c =
    let tree = c.args.tree.now in
    let sized = rw c.as_slice-members.ensures at c.in_ok-users.ensures.size in
    let told = rw c.as_slice-members.ensures at c.in_ok-users.ensures.users in
    let own = c.into_vec-marks.ensures ∙ (rw c.as_slice-members.ensures at c.in_ok-own_floats.ensures) in
    let reached = rw (c.as_slice.ensures.value, own) at c.in_ok-mark_users.ensures.reached in
    let kept = rw own at c.in_ok-mark_users.ensures.kept in
    let closed = rw c.as_slice.ensures.value at c.in_ok-mark_users.ensures.closed in
    let same_size = c.in_ok-mark_users.ensures.size ∙ ap length own ∙ length-map tree.members member_has_float in
    marks_tell c.args.index.now tree c.requires c.in_ok-users.users.items c.mark_users.new.marks.items sized told same_size kept closed reached
