use Rattle.std.specs.Io.KnownBytes.{Keeps}
use Rattle.varlink_command.proofs.real_streams.read_uninterrupted.Given as goal

-- an interrupted read changes nothing
abbrev pub invariant-loop : goal.invariant-loop
invariant-loop g l = Keeps (g.R.Read.remaining l.initial.reader) (g.R.Read.remaining l.reader)
