use Rattle.std.proofs.Common.{length, drop, ◌-◌, ◌≡◌, ◌+◌, ◌≤◌}
use Rattle.std.specs.List.{prefix_len}
use Rattle.idl_token.specs.Lex.{is_note_byte}
use Rattle.idl_token.proofs.lexer.note_end.Given as goal

abbrev pub invariant-loop-end : goal.invariant-loop-end
invariant-loop-end l =
    record {
      within : l.end ≤ length l.text;
      left : l.end + prefix_len is_note_byte (drop l.end l.text) ≡ l.at + prefix_len is_note_byte (drop l.at l.text);
    }

abbrev pub decreases-loop-end : goal.decreases-loop-end
decreases-loop-end l = length l.text - l.end
