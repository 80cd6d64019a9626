use Rattle.std.proofs.Common.{◌≡◌, map, drop}
use Rattle.idl_tree.specs.Names.{Bytes}
use Rattle.typed_value.specs.KeyOrder.{are_in_order}
use Rattle.typed_value.specs.declared.vals.Val.{Val}
use Rattle.sheet_rules.proofs.values.keys_rise.Given as goal

abbrev pub invariant-loop-i : goal.invariant-loop-i
invariant-loop-i l =
    are_in_order (map (λ (entry : Bytes × Val). entry.0) (drop l.i l.entries)) ≡ are_in_order (map (λ (entry : Bytes × Val). entry.0) l.entries)
