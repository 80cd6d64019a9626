-- Payloads are gathered from the bytes held, each with its mark as a line behind the lines before it.
use Rattle.std.specs.Prelude.{◌≡◌, ℕ, ◌+◌, ◌<◌, ◌≤◌, List, [], ◌∷◌, ◌++◌, length, ⊤, Option, None, Some}
use Rattle.std.specs.List.{flat_map}
use Rattle.message_frame.specs.Held.{Held}
use Rattle.message_frame.specs.Pieces.{NoNul, ended}
use Rattle.caller_form.specs.declared.faults.ReplyFault.{ReplyFault}
use Rattle.caller_form.specs.declared.faults.ReplyFault.TheVariants as fault
use Rattle.link_exchange.specs.Asked.{Asked}
use Rattle.link_exchange.specs.declared.ends.AskEnd.{AskEnd}
use Rattle.link_exchange.specs.declared.ends.AskEnd.TheVariants.{Done, ErrorReply, NotReply, Continues, Ended, TooLong, IllTyped, Long, LinkFault, WriteFault, Memory}
use Rattle.link_exchange.specs.declared.screens.Misread.{Misread}
use Rattle.link_exchange.specs.declared.screens.Misread.TheVariants as misread
use Rattle.link_exchange.specs.declared.gathering.Step.{Step}
use Rattle.link_exchange.specs.declared.gathering.Step.TheVariants.{Passed, Ends, NeedMore}
use Rattle.link_exchange.specs.declared.verdicts.Verdict.{Verdict}
use Rattle.link_exchange.specs.declared.verdicts.Verdict.TheVariants.{Goes, Last, Astray}
use Rattle.link_exchange.specs.Limits.{most_of_reply}
use Rattle.link_exchange.specs.Taken.{Taken, takes, judged, by_verdict, taken_on, marked, lines}

-- how a call ends whose next message is no reply
abbrev pub fault_end : ℕ → ReplyFault → AskEnd
fault_end index fault.Memory = Memory
fault_end index fault = NotReply index fault

-- how a call ends whose next reply does not read
abbrev pub misread_end : ℕ → Misread → AskEnd
misread_end index (misread.Field field) = IllTyped index field
misread_end index misread.Memory = Memory

-- why a reply does not read, if it does not; want of memory tells nothing
abbrev pub TellsMisread : Option Misread → Option (List ℕ) → Type 0
TellsMisread None there = there ≡ None
TellsMisread (Some (misread.Field field)) there = there ≡ Some field
TellsMisread (Some misread.Memory) there = ⊤

-- want of memory may come at any message
abbrev pub Judges : Verdict → Verdict → Type 0
Judges (Astray Memory) there = ⊤
Judges verdict there = there ≡ verdict

-- the call ended with its last reply
abbrev pub IsLast : AskEnd → Type 0
IsLast (Done replies) = ⊤
IsLast (ErrorReply name) = ⊤
IsLast _ = ⊥

-- a message ended the call that is not passed on, or memory was wanting
abbrev pub IsAstray : AskEnd → Type 0
IsAstray (NotReply index fault) = ⊤
IsAstray (Continues index) = ⊤
IsAstray (TooLong index) = ⊤
IsAstray (IllTyped index field) = ⊤
IsAstray Memory = ⊤
IsAstray _ = ⊥

-- a verdict has an end of its kind
abbrev pub IsOfKind : Verdict → Type 0
IsOfKind Goes = ⊤
IsOfKind (Last end) = IsLast end
IsOfKind (Astray end) = IsAstray end

-- these payloads and this end are what is taken; where memory was wanting, these payloads come first
abbrev pub EndsWith : AskEnd → List (List ℕ) → Taken → Type 0
EndsWith Memory payloads there = (later : Taken) × (there ≡ takes payloads later)
EndsWith (Ended index) payloads there = ⊥
EndsWith Long payloads there = ⊥
EndsWith LinkFault payloads there = ⊥
EndsWith WriteFault payloads there = ⊥
EndsWith end payloads there = there ≡ record { payloads = payloads; end = end }

-- payloads were gathered from the front of what was held, and the call goes on with what is held behind them
pub record Gathers (asking : Asked) (index index' : ℕ) (held held' before now : List ℕ) : Type 0 where
  pub payloads : List (List ℕ)
  pub added : now ≡ before ++ lines asking.mark payloads
  pub whole : held ≡ flat_map ended payloads ++ held'
  pub counted : index' + length held' ≤ index + length held
  pub on : (total : ℕ) (bytes : List ℕ)
      → taken_on asking total index (held ++ bytes) ≡ takes payloads (taken_on asking total index' (held' ++ bytes))

-- payloads were gathered, and the call ended, whatever follows the bytes held
pub record GatherEnds (asking : Asked) (index : ℕ) (held held' before now : List ℕ) (end : AskEnd) : Type 0 where
  pub payloads : List (List ℕ)
  pub added : now ≡ before ++ lines asking.mark payloads
  pub whole : IsLast end → held ≡ flat_map ended payloads ++ held'
  pub shorter : length held' ≤ length held
  pub ends : (total : ℕ) (bytes : List ℕ) → EndsWith end payloads (taken_on asking total index (held ++ bytes))

-- no whole message is held, nor more bytes than a reply may have
pub record IsSettled (held : List ℕ) : Type 0 where
  pub no_nul : NoNul held
  pub short : length held ≤ most_of_reply

-- a payload was passed on or not, and the call ended
pub record LineEnds (asking : Asked) (index : ℕ) (payload before now : List ℕ) (end : AskEnd) : Type 0 where
  pub payloads : List (List ℕ)
  pub added : now ≡ before ++ lines asking.mark payloads
  pub whole : IsLast end → payloads ≡ payload ∷ []
  pub ends : (later : Taken) → EndsWith end payloads (by_verdict payload (judged asking index payload) later)

-- what was made of a payload
abbrev pub PutsLine : Asked → ℕ → List ℕ → List ℕ → List ℕ → Step → Type 0
PutsLine asking index payload before now Passed =
    (judged asking index payload ≡ Goes) × (now ≡ before ++ marked asking.mark payload)
PutsLine asking index payload before now (Ends end) = LineEnds asking index payload before now end
PutsLine asking index payload before now NeedMore = ⊥

-- what was made of the first message held
abbrev pub Steps : Asked → ℕ → Held → Held → List ℕ → List ℕ → Step → Type 0
Steps asking index old new before now Passed =
    Gathers asking index (index + 1) old.bytes new.bytes before now × (length new.bytes < length old.bytes)
Steps asking index old new before now (Ends end) = GatherEnds asking index old.bytes new.bytes before now end
Steps asking index old new before now NeedMore = IsSettled old.bytes × (new ≡ old) × (now ≡ before)

-- bytes that hold no whole message wait for more, unless they are too many
abbrev pub WaitsOn : ℕ → List ℕ → Step → Type 0
WaitsOn index held Passed = ⊥
WaitsOn index held (Ends end) = (most_of_reply < length held) × (end ≡ TooLong index)
WaitsOn index held NeedMore = length held ≤ most_of_reply
