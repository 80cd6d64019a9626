use Rattle.std.proofs.Common.{◌≡◌, map, take}
use Rattle.idl_tree.specs.Floats.{member_has_float}
use Rattle.idl_tree.proofs.floats.own_floats.Given as goal

abbrev pub invariant-loop-member : goal.invariant-loop-member
invariant-loop-member l = l.marks ≡ map member_has_float (take l.member-index l.members)
