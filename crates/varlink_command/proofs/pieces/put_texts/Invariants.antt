use Rattle.std.proofs.Common.{◌≡◌, List, ℕ, ◌++◌, drop, false}
use Rattle.std.specs.Io.KnownBytes.{Appends}
use Rattle.link_port.specs.Flow.{IsAsBefore}
use Rattle.varlink_command.specs.Lines.{joined}
use Rattle.varlink_command.proofs.pieces.put_texts.Given as goal

-- the texts so far were appended, and nothing else changed
abbrev pub invariant-loop-text : goal.invariant-loop-text
invariant-loop-text g l =
    let ends = g.K.Ends in
    record {
      done : List ℕ;
      whole : joined l.texts ≡ done ++ joined (drop l.text-index l.texts);
      bytes : Appends (ends.written l.initial.sink) (ends.written l.sink) done;
      sound : ends.write_faults l.sink ≡ ends.write_faults l.initial.sink;
      unfinished : ends.finished l.sink ≡ false;
      other : IsAsBefore (ends.left l.initial.sink) (ends.left l.sink) (ends.read_faults l.initial.sink) (ends.read_faults l.sink);
    }
