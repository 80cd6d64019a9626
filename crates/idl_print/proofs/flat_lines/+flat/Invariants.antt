use Rattle.std.proofs.Common.{◌≡◌, ◌++◌, drop, map, codes}
use Rattle.std.specs.List.{flat_map}
use Rattle.std.specs.String.{string_bytes}
use Rattle.idl_rules.specs.Canon.{field_entry}
use Rattle.idl_print.proofs.flat_lines.+flat.Given as goal

abbrev pub invariant-push_flat_fields-loop-field : goal.invariant-push_flat_fields-loop-field
invariant-push_flat_fields-loop-field l =
    string_bytes l.out ++ flat_map (λ next. codes ", " ++ next.text.flat) (map field_entry (drop l.field-index l.others))
    ≡ string_bytes l.initial.out ++ flat_map (λ next. codes ", " ++ next.text.flat) (map field_entry l.others)
