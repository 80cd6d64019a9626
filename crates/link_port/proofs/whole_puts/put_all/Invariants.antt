use Rattle.std.proofs.Common.{length, ◌-◌, ◌≡◌, ◌≤◌, false, take}
use Rattle.std.specs.Io.KnownBytes.{Appends}
use Rattle.link_port.specs.Flow.{IsAsBefore}
use Rattle.link_port.proofs.whole_puts.put_all.Given as goal

-- the front of the piece was appended, and nothing else changed
abbrev pub invariant-loop-done : goal.invariant-loop-done
invariant-loop-done g l =
    let ends = g.K.Ends in
    record {
      within : l.done ≤ length l.piece;
      bytes : Appends (ends.written l.initial.sink) (ends.written l.sink) (take l.done l.piece);
      sound : ends.write_faults l.sink ≡ ends.write_faults l.initial.sink;
      other : IsAsBefore (ends.left l.initial.sink) (ends.left l.sink) (ends.read_faults l.initial.sink) (ends.read_faults l.sink);
      unfinished : ends.finished l.sink ≡ false;
    }

-- each put appends at least one byte
abbrev pub decreases-loop-done : goal.decreases-loop-done
decreases-loop-done g l = length l.piece - l.done
