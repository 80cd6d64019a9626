-- What the ends of the real console are made over.
use Rattle.std.specs.Prelude.{ℕ, Bool}
use Rattle.varlink_command.specs.declared.real_streams.RealInput.{RealInput}
use Rattle.varlink_command.specs.declared.real_streams.RealOutput.{RealOutput}

-- the system's reader, and how many of its reads failed
abbrev pub reader_of : {R : Type 0} → RealInput R → R
reader_of input = input.reader

abbrev pub read_faults_of : {R : Type 0} → RealInput R → ℕ
read_faults_of input = input.faults

-- the system's writer, and how many of its writes and flushes failed
abbrev pub writer_of : {W : Type 0} → RealOutput W → W
writer_of output = output.writer

abbrev pub write_faults_of : {W : Type 0} → RealOutput W → ℕ
write_faults_of output = output.faults

-- whether a flush succeeded that told the writer's other end that nothing more comes
abbrev pub is_finished : {W : Type 0} → RealOutput W → Bool
is_finished output = output.finished
