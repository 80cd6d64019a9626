-- That the messages read back: a call and a reply from the payload of their text.
use Rattle.std.specs.Prelude.{◌≡◌, ◌≢◌, ◌≤◌, ◌∷◌, [], ◌++◌, ℕ, List, Ok}
use Rattle.std.specs.List.{AllByRecursion}
use Rattle.serde_json.specs.Data.{depth}
use Rattle.call_form.specs.declared.Call.{Call}
use Rattle.call_form.specs.declared.Reply.{Reply}
use Rattle.call_form.specs.CallOf.{call_of}
use Rattle.call_form.specs.CallText.{IsSendable}
use Rattle.call_form.specs.ReplyText.{IsWritable, reply_bytes}
use Rattle.caller_form.specs.CallBytes.{call_bytes}
use Rattle.caller_form.specs.ReplyOf.{reply_of}

-- bytes are one payload without NUL, and the NUL that ends it
pub record IsMessage (bytes : List ℕ) : Type 0 where
  pub payload : List ℕ
  pub is : bytes ≡ payload ++ 0 ∷ []
  pub no_nul : AllByRecursion (λ b. b ≢ 0) payload

-- the text of a call is one message, and its payload reads back as the call
abbrev pub CallTextsReadBack : Type 0
CallTextsReadBack = (call : Call) → IsSendable call → (message : IsMessage (call_bytes call))
    × (depth call.parameters ≤ 126 → call_of message.payload ≡ Ok call)

-- the text of a reply is one message, and its payload reads back as the reply
abbrev pub ReplyTextsReadBack : Type 0
ReplyTextsReadBack = (reply : Reply) → IsWritable reply → (message : IsMessage (reply_bytes reply))
    × (depth reply.parameters ≤ 126 → reply_of message.payload ≡ Ok reply)
