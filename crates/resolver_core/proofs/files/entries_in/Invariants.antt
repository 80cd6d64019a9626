use Rattle.resolver_core.specs.Held.{seen}
use Rattle.resolver_core.proofs.Reading.{Reading}
use Rattle.resolver_core.proofs.files.entries_in.Given as goal

abbrev pub invariant-loop-name : goal.invariant-loop-name
invariant-loop-name l = Reading (seen l.entries.entries) l.name-iterator l.members.entries
