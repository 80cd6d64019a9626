use Rattle.std.proofs.Common.{◌≡◌, ◌+◌, option_map, drop}
use Rattle.idl_compat.specs.Walks.{stuck}
use Rattle.idl_compat.proofs.prefixes.stuck.Given as goal

abbrev pub invariant-loop-count : goal.invariant-loop-count
invariant-loop-count l = stuck l.to l.fn.from ≡ option_map (λ n. l.count + n) (stuck (drop l.count l.to) l.left)
