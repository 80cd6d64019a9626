use Rattle.std.proofs.Common.{◌≡◌, ◌++◌, drop}
use Rattle.std.specs.List.{flat_map}
use Rattle.std.specs.String.{string_bytes}
use Rattle.idl_rules.specs.Canon.{prefix_text}
use Rattle.idl_print.proofs.pieces.push_prefixes.Given as goal

abbrev pub invariant-loop-prefix : goal.invariant-loop-prefix
invariant-loop-prefix l =
    string_bytes l.out ++ flat_map prefix_text (drop l.prefix-index l.prefixes) ≡ string_bytes l.initial.out ++ flat_map prefix_text l.prefixes
