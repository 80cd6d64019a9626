use Rattle.std.proofs.Common.{◌≡◌, ◌++◌, drop}
use Rattle.std.specs.String.{string_bytes}
use Rattle.idl_rules.specs.Canon.{note_lines}
use Rattle.idl_print.proofs.pieces.push_notes.Given as goal

abbrev pub invariant-loop-note : goal.invariant-loop-note
invariant-loop-note l =
    string_bytes l.out ++ note_lines l.indent (drop l.note-index l.notes) ≡ string_bytes l.initial.out ++ note_lines l.indent l.notes
