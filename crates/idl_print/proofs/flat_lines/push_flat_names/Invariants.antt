use Rattle.std.proofs.Common.{◌≡◌, ◌++◌, drop, map, codes}
use Rattle.std.specs.List.{flat_map}
use Rattle.std.specs.String.{string_bytes}
use Rattle.idl_rules.specs.Canon.{named_entry}
use Rattle.idl_print.proofs.flat_lines.push_flat_names.Given as goal

abbrev pub invariant-loop-named : goal.invariant-loop-named
invariant-loop-named l =
    string_bytes l.out ++ flat_map (λ next. codes ", " ++ next.text.flat) (map named_entry (drop l.named-index l.others))
    ≡ string_bytes l.initial.out ++ flat_map (λ next. codes ", " ++ next.text.flat) (map named_entry l.others)
