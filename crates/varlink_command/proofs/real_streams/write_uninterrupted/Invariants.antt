use Rattle.std.specs.Io.KnownBytes.{Keeps}
use Rattle.varlink_command.proofs.real_streams.write_uninterrupted.Given as goal

-- an interrupted write changes nothing
abbrev pub invariant-loop : goal.invariant-loop
invariant-loop g l = Keeps (g.W.Write.contents l.initial.writer) (g.W.Write.contents l.writer)
