-- What the command `call` does.
use Rattle.std.specs.Prelude.{◌≡◌, ℕ, Bool, Result, ⊤}
use Rattle.call_form.specs.declared.Call.{Call}
use Rattle.link_reach.specs.declared.deeds.Deed.TheVariants as deed
use Rattle.client_core.specs.Calls.{Side}
use Rattle.client_ways.specs.declared.ends.ClientEnd.{ClientEnd}
use Rattle.client_ways.specs.Ways.{CallsBy, Resolves, CountsLinkFaults, CountsWriteFaults}
use Rattle.network_words.specs.declared.meanings.Way.{Way}
use Rattle.network_words.specs.declared.meanings.Way.TheVariants as way
use Rattle.network_command.specs.declared.faults.NetworkFault.{NetworkFault}
use Rattle.network_command.specs.Ends.{Work, side}
use Rattle.network_command.specs.Outcomes.{client_outcome}

-- a call by each of the ways, whose replies are read first where it is typed
abbrev pub Goes : Way → Call → Bool → Side → Side → ClientEnd → Type 0
Goes (way.At address) call typed before after end = CallsBy (deed.Dialled address) call typed before after end
Goes (way.Resolver resolver) call typed before after end = Resolves resolver call typed before after end
Goes (way.Child program resolver) call typed before after end = CallsBy (deed.Started program resolver) call typed before after end

-- the call was made by that way, its replies were put to the output as lines, and the command comes to the end of the call
pub record Calls (by : Way) (call : Call) (typed : Bool) (before after : Work) (outcome : Result ⊤ NetworkFault) : Type 0 where
  pub end : ClientEnd
  pub goes : Goes by call typed (side before) (side after) end
  pub link_faults : CountsLinkFaults end before.link_faults after.link_faults
  pub write_faults : CountsWriteFaults end before.write_faults after.write_faults
  pub comes : outcome ≡ client_outcome end
