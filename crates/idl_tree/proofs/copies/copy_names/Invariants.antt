use Rattle.std.proofs.Common.{◌≡◌, take}
use Rattle.idl_tree.proofs.copies.copy_names.Given as goal

abbrev pub invariant-loop-named : goal.invariant-loop-named
invariant-loop-named l = l.copies ≡ take l.named-index l.names
