use Rattle.std.proofs.Common.{◌≡◌, ◌++◌, drop, map}
use Rattle.std.specs.String.{string_bytes}
use Rattle.idl_rules.specs.Canon.{field_entry, entry_lines}
use Rattle.idl_print.proofs.opened_lines.+opened.Given as goal

abbrev pub invariant-push_field_lines-loop-place : goal.invariant-push_field_lines-loop-place
invariant-push_field_lines-loop-place l =
    string_bytes l.out ++ entry_lines l.indent (map field_entry (drop l.place l.fields))
    ≡ string_bytes l.initial.out ++ entry_lines l.indent (map field_entry l.fields)
