-- What one call takes from the bytes of its link: the payloads that are passed on, and how the call ends (varlink.org,
-- "Method Call": replies come in the order of the calls, a `oneway` call gets none, and only a call with `more` gets
-- several, of which each but the last carries `continues`).
use Rattle.std.specs.Prelude.{ℕ, ◌+◌, ◌==◌, nat_lt, List, [], ◌∷◌, ◌++◌, length, Bool, if◌then◌else◌, ◌&&◌, not, is_none, Option, None, Some, Result, Ok, Err}
use Rattle.std.specs.List.{flat_map}
use Rattle.message_frame.specs.Pieces.{pieces}
use Rattle.call_form.specs.declared.Reply.{Reply}
use Rattle.caller_form.specs.declared.faults.ReplyFault.{ReplyFault}
use Rattle.caller_form.specs.ReplyOf.{reply_of}
use Rattle.link_exchange.specs.Asked.{Asked, Reading}
use Rattle.link_exchange.specs.declared.ends.AskEnd.{AskEnd}
use Rattle.link_exchange.specs.declared.ends.AskEnd.TheVariants.{Done, ErrorReply, NotReply, Continues, Ended, TooLong, IllTyped, Long}
use Rattle.link_exchange.specs.declared.verdicts.Verdict.{Verdict}
use Rattle.link_exchange.specs.declared.verdicts.Verdict.TheVariants.{Goes, Last, Astray}
use Rattle.link_exchange.specs.Limits.{most_of_reply, most_of_link}

pub record Taken : Type 0 where
  pub payloads : List (List ℕ)
  pub end : AskEnd

-- nothing is passed on
abbrev pub takes_none : AskEnd → Taken
takes_none end = record { payloads = []; end = end }

-- these payloads come first
abbrev pub takes : List (List ℕ) → Taken → Taken
takes payloads later = record { payloads = payloads ++ later.payloads; end = later.end }

-- how the last reply ends the call, by the name of its error
abbrev pub last_end : ℕ → Option (List ℕ) → AskEnd
last_end index None = Done (index + 1)
last_end index (Some name) = ErrorReply name

-- a reply says that another follows, though it is an error or the call did not ask for more
abbrev pub goes_astray : Bool → Reply → Bool
goes_astray more reply = reply.continues && not (more && is_none reply.error)

-- the first field of a reply that does not read; nothing is read of an error
abbrev pub field_of : Reading → Reply → Option (List ℕ) → Option (List ℕ)
field_of unread reply None = unread reply
field_of unread reply (Some name) = None

abbrev pub by_field : ℕ → Reply → Option (List ℕ) → Verdict
by_field index reply None = if reply.continues then Goes else Last (last_end index reply.error)
by_field index reply (Some name) = Astray (IllTyped index name)

abbrev pub by_reply : Asked → ℕ → Reply → Verdict
by_reply asked index reply =
    if goes_astray asked.more reply then Astray (Continues index)
    else by_field index reply (field_of asked.unread reply reply.error)

abbrev pub by_reading : Asked → ℕ → Result Reply ReplyFault → Verdict
by_reading asked index (Ok reply) = by_reply asked index reply
by_reading asked index (Err fault) = Astray (NotReply index fault)

-- what is made of the payload of this index
abbrev pub judged : Asked → ℕ → List ℕ → Verdict
judged asked index payload =
    if nat_lt most_of_reply (length payload) then Astray (TooLong index)
    else by_reading asked index (reply_of payload)

-- a reply that goes on is passed on, and so is the last one, an error too. One that is astray is not
abbrev pub by_verdict : List ℕ → Verdict → Taken → Taken
by_verdict payload Goes later = takes (payload ∷ []) later
by_verdict payload (Last end) later = record { payloads = payload ∷ []; end = end }
by_verdict payload (Astray end) later = takes_none end

-- where the link ends, unless as many bytes were taken from it as are taken from one link
abbrev pub at_end : ℕ → ℕ → AskEnd
at_end total index = if total == most_of_link then Long else Ended index

-- what is left behind the last whole message
abbrev pub at_rest : ℕ → ℕ → List ℕ → AskEnd
at_rest total index rest = if nat_lt most_of_reply (length rest) then TooLong index else at_end total index

-- through whole messages, of which the first has this index, and then the rest
unfoldable pub taken_of : Asked → ℕ → ℕ → List (List ℕ) → List ℕ → Taken
taken_of asked total index [] rest = takes_none (at_rest total index rest)
taken_of asked total index (payload ∷ payloads) rest =
    by_verdict payload (judged asked index payload) (taken_of asked total (index + 1) payloads rest)

-- on from the message of this index, through these bytes, which are the last of `total` that were taken from the link
abbrev pub taken_on : Asked → ℕ → ℕ → List ℕ → Taken
taken_on asked total index bytes = taken_of asked total index (pieces bytes).payloads (pieces bytes).rest

-- what a call takes of these bytes
abbrev pub taken : Asked → ℕ → List ℕ → Taken
taken asked total bytes = if asked.oneway then takes_none (Done 0) else taken_on asked total 0 bytes

-- a payload as it is passed on: as it came, with a mark behind it
abbrev pub marked : ℕ → List ℕ → List ℕ
marked mark payload = payload ++ mark ∷ []

abbrev pub lines : ℕ → List (List ℕ) → List ℕ
lines mark payloads = flat_map (marked mark) payloads
