use Rattle.std.proofs.Common.{◌≡◌, ◌++◌, drop, string_bytes}
use Rattle.idl_compat.specs.Lines.{worded}
use Rattle.idl_compat.proofs.lines.differs.Given as goal

abbrev pub invariant-loop-word : goal.invariant-loop-word
invariant-loop-word l = string_bytes l.line ++ worded (drop l.word-index l.path) ≡ string_bytes l.initial.line ++ worded l.path
