use Rattle.resolver_core.proofs.Listed.{Lists}
use Rattle.resolver_core.proofs.infos.name_list.Given as goal

abbrev pub invariant-loop-name : goal.invariant-loop-name
invariant-loop-name l = Lists l.list l.name-iterator l.addresses.entries
