use Rattle.std.proofs.Common.{◌≡◌, ◌&&◌, not, drop}
use Rattle.idl_tree.specs.Form.{begins_with_maybe, has_single_maybes}
use Rattle.idl_tree.proofs.forms.has_single_maybes.Given as goal

abbrev pub invariant-loop-prefix : goal.invariant-loop-prefix
invariant-loop-prefix l =
    (not (l.after_maybe && begins_with_maybe (drop l.prefix-index l.prefixes)) && has_single_maybes (drop l.prefix-index l.prefixes))
    ≡ has_single_maybes l.prefixes
