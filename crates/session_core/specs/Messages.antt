-- What the first message held is.
use Rattle.std.specs.Prelude.{◌≡◌, ℕ, ◌<◌, ◌≤◌, List, length, Ok, Result}
use Rattle.message_frame.specs.Pieces.{NoNul}
use Rattle.message_frame.specs.Held.{Held}
use Rattle.message_frame.specs.Steps.{Begins}
use Rattle.call_form.specs.declared.Call.{Call}
use Rattle.call_form.specs.declared.CallFault.{CallFault}
use Rattle.call_form.specs.CallOf.{call_of, IsObject, Refuses}
use Rattle.call_form.specs.declared.CallFault.TheVariants as fault
use Rattle.session_core.specs.declared.stops.Stop.{Stop}
use Rattle.session_core.specs.declared.stops.Stop.TheVariants as stop
use Rattle.session_core.specs.declared.messages.Message.{Message}
use Rattle.session_core.specs.declared.messages.Message.TheVariants as message

-- a payload of this reading was taken off the front of the bytes held
pub record Read (old new : Held) (Reads : Result Call CallFault → Type 0) : Type 0 where
  pub payload : List ℕ
  pub begins : Begins old.bytes payload new.bytes
  pub short : length payload ≤ old.limit
  pub limit : new.limit ≡ old.limit
  pub reads : Reads (call_of payload)

abbrev pub IsMessage : Held → Message → Held → Type 0
IsMessage old (message.Call call) new = Read old new (λ there. there ≡ Ok call) × IsObject call.parameters
IsMessage old (message.Fault fault) new = Read old new (Refuses fault)
IsMessage old message.TooLong new = NoNul old.bytes × (old.limit < length old.bytes) × (new ≡ old)
IsMessage old message.NeedMore new = NoNul old.bytes × (length old.bytes ≤ old.limit) × (new ≡ old)

-- the stop of a session whose next message has this fault
abbrev pub fault_stop : ℕ → CallFault → Stop
fault_stop index fault.Memory = stop.Memory
fault_stop index fault = stop.NotCall index fault
