-- What is done and told where a resolver is asked for the address of an interface (varlink.org, "Resolver").
use Rattle.std.specs.Prelude.{◌≡◌, ℕ, List, [], ◌∷◌, ◌++◌, Option, Some, Result, Ok, Err, ⊤}
use Rattle.caller_form.specs.CallBytes.{call_bytes}
use Rattle.caller_form.specs.ReplyOf.{reply_of}
use Rattle.call_form.specs.declared.Reply.{Reply}
use Rattle.caller_form.specs.declared.faults.ReplyFault.{ReplyFault}
use Rattle.link_doors.specs.declared.addresses.Address.{Address}
use Rattle.link_port.specs.Faults.{Rises}
use Rattle.link_reach.specs.declared.deeds.Deed.{Deed}
use Rattle.link_reach.specs.declared.deeds.Deed.TheVariants as deed
use Rattle.link_reach.specs.declared.deeds.LinkState.{LinkState}
use Rattle.link_exchange.specs.declared.ends.AskEnd.{AskEnd}
use Rattle.link_exchange.specs.declared.ends.AskEnd.TheVariants as ask
use Rattle.client_core.specs.Calls.{Side, CallsOver, asking_of}
use Rattle.standard_calls.specs.Asking.{resolve_call}
use Rattle.standard_calls.specs.Addresses.{address_in}
use Rattle.standard_calls.specs.declared.faults.NoAddress.{NoAddress}
use Rattle.standard_calls.specs.declared.faults.NoAddress.TheVariants as none
use Rattle.address_finding.specs.declared.ends.ResolveEnd.{ResolveEnd}
use Rattle.address_finding.specs.declared.ends.ResolveEnd.TheVariants.{Missing, Bad, LinkFault, Memory}
use Rattle.address_finding.specs.declared.ends.ResolveFault.{ResolveFault}
use Rattle.address_finding.specs.declared.ends.ResolveFault.TheVariants as fault

-- what the reply has in place of an address
abbrev pub told_of : Result Address NoAddress → Result Address ResolveEnd
told_of (Ok address) = Ok address
told_of (Err none.Missing) = Err Missing
told_of (Err (none.OtherError name)) = Err (Bad (fault.OtherError name))
told_of (Err none.NoText) = Err (Bad fault.NoText)
told_of (Err none.BadAddress) = Err (Bad fault.BadAddress)
told_of (Err none.Memory) = Err Memory

abbrev pub by_reply : Result Reply ReplyFault → Result Address ResolveEnd
by_reply (Ok reply) = told_of (address_in reply)
by_reply (Err found) = Err (Bad (fault.NotReply found))

-- what a payload tells
abbrev pub told_by : List ℕ → Result Address ResolveEnd
told_by payload = by_reply (reply_of payload)

-- the answer is this; want of memory tells nothing
abbrev pub Tells : Result Address ResolveEnd → Result Address ResolveEnd → Type 0
Tells (Err Memory) there = ⊤
Tells told there = told ≡ there

-- where the call ended with its last reply, this holds; else the answer is what the end tells
abbrev pub AnswersBy : Type 0 → Result Address ResolveEnd → AskEnd → Type 0
AnswersBy Holds told (ask.Done replies) = Holds
AnswersBy Holds told (ask.ErrorReply name) = Holds
AnswersBy Holds told (ask.NotReply index found) = told ≡ Err (Bad (fault.NotReply found))
AnswersBy Holds told (ask.Continues index) = told ≡ Err (Bad fault.Continues)
AnswersBy Holds told (ask.Ended index) = told ≡ Err (Bad fault.Ended)
AnswersBy Holds told (ask.TooLong index) = told ≡ Err (Bad fault.TooLong)
AnswersBy Holds told (ask.IllTyped index field) = ⊥
AnswersBy Holds told ask.Long = told ≡ Err (Bad fault.Long)
AnswersBy Holds told ask.LinkFault = told ≡ Err LinkFault
AnswersBy Holds told ask.WriteFault = told ≡ Err Memory
AnswersBy Holds told ask.Memory = told ≡ Err Memory

-- these are one payload, passed on as a line, and the answer is what it tells
abbrev pub TellsLine : Result Address ResolveEnd → List ℕ → Type 0
TellsLine told printed = (payload : List ℕ) × (printed ≡ payload ++ 10 ∷ []) × Tells told (told_by payload)

-- the answer where the call ended so, and passed on this
abbrev pub Answers : Result Address ResolveEnd → AskEnd → List ℕ → Type 0
Answers told end printed = AnswersBy (TellsLine told printed) told end

-- the answer is what these tell, where they are one payload, passed on as a line
abbrev pub TellsIn : Result Address ResolveEnd → List ℕ → Type 0
TellsIn told printed = (payload : List ℕ) → printed ≡ payload ++ 10 ∷ [] → Tells told (told_by payload)

-- the count of the reach's faults rose exactly where the answer is that fault
abbrev pub CountsFaults : Result Address ResolveEnd → ℕ → ℕ → Type 0
CountsFaults (Err LinkFault) before now = Rises before now
CountsFaults told before now = now ≡ before

-- what a question changes: what was done, how many links were opened, and what became of each
pub record Links : Type 0 where
  pub log : Option (List Deed)
  pub opened : ℕ
  pub state : ℕ → LinkState

abbrev pub side : Links → List ℕ → Side
side links printed = record { log = links.log; written = Some printed; opened = links.opened; state = links.state }

-- one `Resolve` call for the interface was made at the resolver's address, over a link of its own, and nothing else was
-- done; the answer is what it came to
pub record Finds (resolver : Address) (interface : List ℕ) (before after : Links) (told : Result Address ResolveEnd) : Type 0 where
  pub end : AskEnd
  pub printed : List ℕ
  pub calls : CallsOver (deed.Dialled resolver) (call_bytes (resolve_call interface)) (asking_of (resolve_call interface))
      (side before []) (side after printed) end
  pub answers : Answers told end printed
