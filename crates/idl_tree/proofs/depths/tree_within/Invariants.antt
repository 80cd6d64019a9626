use Rattle.std.proofs.Common.{◌≡◌, nat_le, map, drop}
use Rattle.idl_tree.specs.Form.{part_depth, greatest}
use Rattle.idl_tree.proofs.depths.tree_within.Given as goal

abbrev pub invariant-loop-member : goal.invariant-loop-member
invariant-loop-member l =
    nat_le (greatest (map (λ member. part_depth member.part) (drop l.member-index l.member-items))) l.room
    ≡ nat_le (greatest (map (λ member. part_depth member.part) l.member-items)) l.room
