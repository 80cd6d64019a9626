use Rattle.std.proofs.Common.{◌≡◌, nat_le, map, drop}
use Rattle.idl_tree.specs.Form.{type_depth, greatest}
use Rattle.idl_tree.proofs.depths.+within.Given as goal

abbrev pub invariant-fields_within-loop-field : goal.invariant-fields_within-loop-field
invariant-fields_within-loop-field l =
    nat_le (greatest (map (λ field. type_depth field.of) (drop l.field-index l.fields))) l.room
    ≡ nat_le (greatest (map (λ field. type_depth field.of) l.fields)) l.room
