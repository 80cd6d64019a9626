use Rattle.std.proofs.Common.{◌≡◌, drop}
use Rattle.std.specs.List.{list_all}
use Rattle.idl_tree.specs.Places.{has_name}
use Rattle.idl_compat.proofs.names.are_among.Given as goal

abbrev pub invariant-loop-named : goal.invariant-loop-named
invariant-loop-named l = list_all (λ named. has_name l.known named.name) l.names ≡ list_all (λ named. has_name l.known named.name) (drop l.named-index l.names)
