use Rattle.std.proofs.Common.{◌≡◌}
use Rattle.idl_tree.proofs.MemberNames.{members_from}
use Rattle.idl_tree.proofs.checks.check_members.Given as goal

abbrev pub invariant-loop-place : goal.invariant-loop-place
invariant-loop-place l = members_from l.members l.place ≡ members_from l.members 0
