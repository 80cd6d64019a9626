-- What the reply to a `Resolve` call tells (varlink.org, "Resolver": `Resolve(interface: string) -> (address: string)`
-- and the error `InterfaceNotFound`): an address, or the first thing that it has in place of one.
use Rattle.std.specs.Prelude.{◌≡◌, ℕ, List, codes, if◌then◌else◌, Option, Some, None, Result, Ok, Err, ⊤}
use Rattle.std.specs.Str.{bytes_eq}
use Rattle.serde_json.specs.Data.{Data, string}
use Rattle.serde_json.specs.Find.{get}
use Rattle.call_form.specs.declared.Reply.{Reply}
use Rattle.link_doors.specs.Addresses.{address_of}
use Rattle.link_doors.specs.declared.addresses.Address.{Address}
use Rattle.standard_calls.specs.declared.faults.NoAddress.{NoAddress}
use Rattle.standard_calls.specs.declared.faults.NoAddress.TheVariants.{Missing, OtherError, NoText, BadAddress, Memory}

-- an error of the resolver says that it has no such interface; another error is told by its name
abbrev pub of_error : List ℕ → NoAddress
of_error name = if bytes_eq name (codes "org.varlink.resolver.InterfaceNotFound") then Missing else OtherError name

abbrev pub of_text : Option Address → Result Address NoAddress
of_text (Some address) = Ok address
of_text None = Err BadAddress

abbrev pub by_member : Option Data → Result Address NoAddress
by_member (Some (string text)) = of_text (address_of text)
by_member found = Err NoText

abbrev pub by_error : Option (List ℕ) → Data → Result Address NoAddress
by_error (Some name) parameters = Err (of_error name)
by_error None parameters = by_member (get (codes "address") parameters)

-- the address that a reply tells
abbrev pub address_in : Reply → Result Address NoAddress
address_in reply = by_error reply.error reply.parameters

-- it is this fault, or want of memory, which tells nothing
abbrev pub IsFault : NoAddress → NoAddress → Type 0
IsFault Memory there = ⊤
IsFault told there = told ≡ there

-- the answer is what the reply tells, unless memory was wanting
abbrev pub TellsAddress : Result Address NoAddress → Result Address NoAddress → Type 0
TellsAddress (Err Memory) there = ⊤
TellsAddress told there = told ≡ there
