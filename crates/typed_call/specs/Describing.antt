-- A service is asked for a definition, on an open link (varlink.org, "Service": `GetInterfaceDescription`).
use Rattle.std.specs.Prelude.{◌≡◌, ℕ, List, [], ◌∷◌, ◌++◌, Some, Result, Ok, Err, ⊤}
use Rattle.caller_form.specs.CallBytes.{call_bytes}
use Rattle.caller_form.specs.ReplyOf.{reply_of}
use Rattle.call_form.specs.declared.Reply.{Reply}
use Rattle.link_exchange.specs.declared.ends.AskEnd.{AskEnd}
use Rattle.link_exchange.specs.declared.ends.AskEnd.TheVariants as ask
use Rattle.link_exchange.specs.Exchanges.{Exchanged}
use Rattle.link_exchange.specs.Passing.{LinkFaults, WriteFaults}
use Rattle.link_exchange.specs.Stands.{Stand}
use Rattle.client_core.specs.Calls.{asking_of}
use Rattle.standard_calls.specs.Asking.{description_call}
use Rattle.standard_calls.specs.Descriptions.{Output, Says, Answers, Same}
use Rattle.standard_calls.specs.declared.faults.NoDescription.{NoDescription}
use Rattle.standard_calls.specs.declared.faults.NoDescription.TheVariants as none
use Rattle.typed_call.specs.declared.ends.ReplyEnd.{ReplyEnd}
use Rattle.typed_call.specs.declared.ends.ReplyEnd.TheVariants as reply_end
use Rattle.typed_call.specs.declared.ends.TypedEnd.{TypedEnd}
use Rattle.typed_call.specs.declared.ends.TypedEnd.TheVariants.{Asked, NoDescription as NoneTold}
use Rattle.typed_call.specs.declared.ends.Why.TheVariants.{Exchange, Said}

-- a call for a definition ended so, and nothing more was asked
abbrev pub stops : AskEnd → Result Output TypedEnd
stops end = Err (Asked end)

-- there is no description for this reason
abbrev pub lacks : ReplyEnd → Result Output TypedEnd
lacks end = Err (NoneTold (Exchange end))

-- what a reply says is the answer; want of memory is that of the call
abbrev pub told : Result Output NoDescription → Result Output TypedEnd
told (Ok output) = Ok output
told (Err none.Memory) = stops ask.Memory
told (Err why) = Err (NoneTold (Said why))

-- a reply was passed on as a line, and the answer is what it says of the method of that name
pub record IsSaid (method printed : List ℕ) (answer : Result Output TypedEnd) : Type 0 where
  pub payload : List ℕ
  pub reply : Reply
  pub said : Result Output NoDescription
  pub line : printed ≡ payload ++ 10 ∷ []
  pub is : reply_of payload ≡ Ok reply
  pub says : Answers (Says reply method) said
  pub exact : (other : Result Output NoDescription) → Says reply method other → Same said other
  pub answered : answer ≡ told said

-- the answer where the call for the definition ended so, and passed on this. Where the sink in memory is full, memory was
-- wanting
abbrev pub Tells : List ℕ → AskEnd → List ℕ → Result Output TypedEnd → Type 0
Tells method (ask.Done replies) printed answer = IsSaid method printed answer
Tells method (ask.ErrorReply name) printed answer = IsSaid method printed answer
Tells method (ask.NotReply index fault) printed answer = answer ≡ lacks (reply_end.NotReply fault)
Tells method (ask.Continues index) printed answer = answer ≡ lacks reply_end.Continues
Tells method (ask.Ended index) printed answer = answer ≡ lacks reply_end.Ended
Tells method (ask.TooLong index) printed answer = answer ≡ lacks reply_end.TooLong
Tells method (ask.IllTyped index field) printed answer = ⊥
Tells method ask.Long printed answer = answer ≡ stops ask.Long
Tells method ask.LinkFault printed answer = answer ≡ stops ask.LinkFault
Tells method ask.WriteFault printed answer = answer ≡ stops ask.Memory
Tells method ask.Memory printed answer = answer ≡ stops ask.Memory

-- the same stand, of what is printed aside
abbrev pub aside : List ℕ → Stand → Stand
aside printed stand = record stand { written = Some printed }

-- one call for the definition of an interface was made on a link, and the answer is what its reply says of the method of
-- that name
pub record Describes (interface method : List ℕ) (link : ℕ) (old new : Stand) (answer : Result Output TypedEnd) : Type 0 where
  pub end : AskEnd
  pub printed : List ℕ
  pub exchanged : Exchanged (asking_of (description_call interface)) (call_bytes (description_call interface)) link
      (aside [] old) (aside printed new) end
  pub tells : Tells method end printed answer

-- ---- for private clauses

-- the count of the reach's faults rose exactly where the answer is that it failed
abbrev pub LinkFaultsOf : TypedEnd → ℕ → ℕ → Type 0
LinkFaultsOf (Asked end) before now = LinkFaults end before now
LinkFaultsOf (NoneTold why) before now = now ≡ before

-- the count of the sink's faults rose exactly where the call ended so
abbrev pub WriteFaultsOf : TypedEnd → ℕ → ℕ → Type 0
WriteFaultsOf (Asked end) before now = WriteFaults end before now
WriteFaultsOf (NoneTold why) before now = now ≡ before

-- a description that was not had, for another reason than the sink's
abbrev pub IsNoWriteFault : TypedEnd → Type 0
IsNoWriteFault (Asked ask.WriteFault) = ⊥
IsNoWriteFault end = ⊤

abbrev pub FaultsOf : Result Output TypedEnd → ℕ → ℕ → Type 0
FaultsOf (Ok output) before now = now ≡ before
FaultsOf (Err end) before now = LinkFaultsOf end before now × IsNoWriteFault end
