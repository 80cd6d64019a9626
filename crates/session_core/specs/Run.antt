-- The session machine: what is written on a connection for the bytes that came, and why it stops (varlink.org,
-- "Method Call": replies come in the order of the calls, a `oneway` call gets none, and after the reply to an accepted
-- `upgrade` call the connection speaks another protocol).
use Rattle.std.specs.Prelude.{ℕ, ◌+◌, ◌==◌, nat_lt, List, [], ◌∷◌, ◌++◌, length, Bool, if◌then◌else◌, Option, None, Some, Result, Ok, Err}
use Rattle.std.specs.List.{flat_map}
use Rattle.message_frame.specs.Pieces.{ended, pieces}
use Rattle.call_form.specs.declared.Call.{Call}
use Rattle.call_form.specs.declared.CallFault.{CallFault}
use Rattle.call_form.specs.declared.Outcome.{Outcome}
use Rattle.call_form.specs.declared.Raw.{Raw}
use Rattle.call_form.specs.declared.Raw.TheVariants.{Echo, Discard}
use Rattle.call_form.specs.CallOf.{call_of}
use Rattle.call_form.specs.ReplyText.{reply_bytes}
use Rattle.session_core.specs.declared.stops.Stop.{Stop}
use Rattle.session_core.specs.declared.stops.Stop.TheVariants.{End, Cut, NotCall, TooLong, Upgraded, Long}
use Rattle.session_core.specs.Limits.{most_bytes}

-- the calls that were read, the bytes that are written, and the stop; no stop where a call is left unanswered
pub record Ran : Type 0 where
  pub calls : List Call
  pub out : List ℕ
  pub stop : Option Stop

-- nothing more is read or written
abbrev pub stopped : Stop → Ran
stopped stop = record { calls = []; out = []; stop = Some stop }

-- these calls and these bytes come first
abbrev pub after : List Call → List ℕ → Ran → Ran
after calls out ran = record { calls = calls ++ ran.calls; out = out ++ ran.out; stop = ran.stop }

-- at the end of the input, unless as many bytes came as a session takes
abbrev pub at_end : ℕ → Stop → Stop
at_end total stop = if total == most_bytes then Long else stop

-- the stop after the last whole message, where these bytes are left
abbrev pub end_of : List ℕ → Stop
end_of [] = End
end_of (b ∷ bytes) = Cut (length (b ∷ bytes))

-- what is left after the last whole message
abbrev pub at_rest : ℕ → ℕ → ℕ → List ℕ → Stop
at_rest limit index total rest = if nat_lt limit (length rest) then TooLong index else at_end total (end_of rest)

-- the bytes after an accepted upgrade come back, or they are dropped
abbrev pub echoed : Raw → List ℕ → List ℕ
echoed Echo bytes = bytes
echoed Discard bytes = []

abbrev pub raw_run : ℕ → Raw → List ℕ → Ran
raw_run total raw bytes = record { calls = []; out = echoed raw bytes; stop = Some (at_end total Upgraded) }

-- the texts of the replies; none for a `oneway` call
abbrev pub texts : Bool → Outcome → List ℕ
texts oneway outcome = if oneway then [] else flat_map reply_bytes outcome.replies

-- what follows a call: more calls, each with the next outcome, or raw bytes after an accepted upgrade
pub record Later : Type 0 where
  pub calls : List Outcome → Ran
  pub raw : Raw → Ran

abbrev pub goes_on : Later → Option Raw → List Outcome → Ran
goes_on later None outcomes = later.calls outcomes
goes_on later (Some raw) outcomes = later.raw raw

-- the next call takes the next outcome
abbrev pub answered : Call → Later → List Outcome → Ran
answered call later [] = record { calls = call ∷ []; out = []; stop = None }
answered call later (outcome ∷ outcomes) = after (call ∷ []) (texts call.oneway outcome) (goes_on later outcome.raw outcomes)

-- a message that is a call is answered, and one that is none stops the session
abbrev pub by_call : ℕ → Result Call CallFault → Later → List Outcome → Ran
by_call index (Ok call) later outcomes = answered call later outcomes
by_call index (Err fault) later outcomes = stopped (NotCall index fault)

-- the run through whole messages, of which the first has this index, and then the rest
unfoldable pub run_messages : ℕ → ℕ → ℕ → List (List ℕ) → List ℕ → List Outcome → Ran
run_messages limit total index [] rest outcomes = stopped (at_rest limit index total rest)
run_messages limit total index (payload ∷ payloads) rest outcomes =
    if nat_lt limit (length payload) then stopped (TooLong index)
    else by_call index (call_of payload)
    (record {
      calls = run_messages limit total (index + 1) payloads rest;
      raw = λ raw. raw_run total raw (flat_map ended payloads ++ rest);
    })
    outcomes

-- the run on from the message of this index, through these bytes, which are the last of `total`
abbrev pub run_on : ℕ → ℕ → ℕ → List ℕ → List Outcome → Ran
run_on limit total index bytes outcomes = run_messages limit total index (pieces bytes).payloads (pieces bytes).rest outcomes

-- the session machine, for messages of at most `limit` bytes
abbrev pub run : ℕ → List ℕ → List Outcome → Ran
run limit bytes outcomes = run_on limit (length bytes) 0 bytes outcomes
