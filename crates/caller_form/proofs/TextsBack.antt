-- The payload of a message reads back.
use Rattle.std.proofs.Common.{◌≡◌, ◌≤◌, Bool, true, false, List, ℕ, Ok, inl, inr, refl}
use Rattle.std.specs.Prelude.{codes, Option, Some, None}
use Rattle.serde_json.specs.Data.{Data, object, no_members, member, depth}
use Rattle.serde_json.specs.Find.{get}
use Rattle.serde_json.specs.Written.{compact_text}
use Rattle.call_form.specs.declared.Call.{Call}
use Rattle.call_form.specs.declared.Reply.{Reply}
use Rattle.call_form.specs.CallOf.{call_of}
use Rattle.call_form.specs.CallRules.{IsFlag}
use Rattle.call_form.specs.CallText.{IsSendable, call_tree}
use Rattle.call_form.specs.ReplyText.{IsWritable, with_continues, with_error, reply_tree, reply_bytes}
use Rattle.call_form.proofs.TextLemmas.{compact_text-NoNul}
use Rattle.call_form.proofs.MessagesBack as back
use Rattle.caller_form.specs.CallBytes.{call_bytes}
use Rattle.caller_form.specs.ReplyOf.{reply_of}
use Rattle.caller_form.specs.ReplyRules.{IsError, IsReply}
use Rattle.caller_form.specs.MessagesBack.{IsMessage}
use Rattle.caller_form.proofs.ReplyLemmas.{reply_of-IsReply}

call_message : (call : Call) → IsMessage (call_bytes call)
call_message call = record { payload = compact_text (call_tree call); is = refl; no_nul = compact_text-NoNul (call_tree call) }

pub calls_read_back : (call : Call) → IsSendable call → (message : IsMessage (call_bytes call))
    × (depth call.parameters ≤ 126 → call_of message.payload ≡ Ok call)
unfolding call_message call_tree
calls_read_back call is = (call_message call, back.calls_read_back call is)

-- ---- replies

module _ (parameters : Data) where
  abbrev tree_with : Bool → Option (List ℕ) → Data
  tree_with continues error = object (with_continues continues (with_error error (member (codes "parameters") parameters no_members)))

  given : (continues : Bool) (error : Option (List ℕ)) → get (codes "parameters") (tree_with continues error) ≡ Some parameters
  given true (Some name) = refl
  given true None = refl
  given false (Some name) = refl
  given false None = refl

  follows : (continues : Bool) (error : Option (List ℕ)) → IsFlag (get (codes "continues") (tree_with continues error)) continues
  follows true error = inl refl
  follows false (Some name) = inr (inl refl, refl)
  follows false None = inr (inl refl, refl)

  named : (continues : Bool) (error : Option (List ℕ)) → IsError (get (codes "error") (tree_with continues error)) error
  named true (Some name) = refl
  named true None = inl refl
  named false (Some name) = refl
  named false None = inl refl

is_reply : (reply : Reply) → IsWritable reply → depth reply.parameters ≤ 126 → IsReply (compact_text (reply_tree reply)) reply
unfolding reply_tree
is_reply reply is shallow =
    let read = back.replies_read_back reply is shallow in
    record {
      tree = reply_tree reply;
      is_utf8 = read.1;
      is_json = read.0;
      is_object = refl;
      continues = follows reply.parameters reply.continues reply.error;
      error = named reply.parameters reply.continues reply.error;
      parameters = inl (is.is_object, given reply.parameters reply.continues reply.error);
    }

reply_message : (reply : Reply) → IsMessage (reply_bytes reply)
reply_message reply = record { payload = compact_text (reply_tree reply); is = refl; no_nul = compact_text-NoNul (reply_tree reply) }

pub replies_read_back : (reply : Reply) → IsWritable reply → (message : IsMessage (reply_bytes reply))
    × (depth reply.parameters ≤ 126 → reply_of message.payload ≡ Ok reply)
unfolding reply_message reply_tree
replies_read_back reply is = (reply_message reply, λ shallow. reply_of-IsReply _ reply (is_reply reply is shallow))
