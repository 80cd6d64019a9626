use Rattle.std.proofs.Common.{◌≡◌, ◌++◌, drop, map}
use Rattle.std.specs.String.{string_bytes}
use Rattle.idl_rules.specs.Canon.{named_entry, entry_lines}
use Rattle.idl_print.proofs.opened_lines.push_name_lines.Given as goal

abbrev pub invariant-loop-place : goal.invariant-loop-place
invariant-loop-place l =
    string_bytes l.out ++ entry_lines l.indent (map named_entry (drop l.place l.names))
    ≡ string_bytes l.initial.out ++ entry_lines l.indent (map named_entry l.names)
