-- What a command comes to, by how its call or its question ended.
use Rattle.std.specs.Prelude.{ℕ, List, Result, Ok, Err, ⊤}
use Rattle.link_exchange.specs.declared.ends.AskEnd.{AskEnd}
use Rattle.link_exchange.specs.declared.ends.AskEnd.TheVariants as ask
use Rattle.address_finding.specs.declared.ends.ResolveEnd.{ResolveEnd}
use Rattle.address_finding.specs.declared.ends.ResolveEnd.TheVariants as end
use Rattle.client_ways.specs.declared.ends.ClientEnd.{ClientEnd}
use Rattle.client_ways.specs.declared.ends.ClientEnd.TheVariants as client
use Rattle.network_command.specs.declared.faults.NetworkFault.{NetworkFault}
use Rattle.network_command.specs.declared.faults.NetworkFault.TheVariants as fault

-- of a call
abbrev pub call_outcome : AskEnd → Result ⊤ NetworkFault
call_outcome (ask.Done replies) = Ok tt
call_outcome (ask.ErrorReply name) = Err (fault.ErrorReply name)
call_outcome (ask.NotReply index why) = Err (fault.NotReply index)
call_outcome (ask.Continues index) = Err (fault.Continues index)
call_outcome (ask.Ended index) = Err (fault.Ended index)
call_outcome (ask.TooLong index) = Err (fault.TooLong index)
call_outcome (ask.IllTyped index field) = Err (fault.IllTyped index field)
call_outcome ask.Long = Err fault.Long
call_outcome ask.LinkFault = Err fault.LinkFault
call_outcome ask.WriteFault = Err fault.WriteFault
call_outcome ask.Memory = Err fault.Memory

-- of a call of a client
abbrev pub client_outcome : ClientEnd → Result ⊤ NetworkFault
client_outcome (client.Asked end) = call_outcome end
client_outcome (client.NoDescription why) = Err fault.NoDescription
client_outcome (client.Unresolved interface) = Err (fault.NoAddress interface)
client_outcome (client.Resolver why) = Err fault.BadResolver

-- of a question for the address of this interface that no address answers
abbrev pub no_address : List ℕ → ResolveEnd → NetworkFault
no_address interface end.Missing = fault.NoAddress interface
no_address interface (end.Bad why) = fault.BadResolver
no_address interface end.LinkFault = fault.LinkFault
no_address interface end.Memory = fault.Memory
