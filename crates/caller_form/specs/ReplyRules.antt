-- Which payload is which reply, member by member and with no order of faults (varlink.org, "Method Call").
use Rattle.std.specs.Prelude.{◌≡◌, ◌↔◌, ℕ, List, codes, Option, Some, None, Ok, IsUtf8}
use Rattle.serde_json.specs.Data.{Data, string}
use Rattle.serde_json.specs.Read.{read}
use Rattle.serde_json.specs.Find.{get}
use Rattle.call_form.specs.declared.Reply.{Reply}
use Rattle.call_form.specs.CallOf.{IsObject}
use Rattle.call_form.specs.CallRules.{IsAbsent, IsFlag, AreParameters}
use Rattle.caller_form.specs.ReplyOf.{reply_of}

-- the name of an error that a member is, or none
abbrev pub IsError : Option Data → Option (List ℕ) → Type 0
IsError found (Some name) = found ≡ Some (string name)
IsError found None = IsAbsent found

-- the payload is UTF-8 and JSON, its tree is an object, and the members are those of the reply
pub record IsReply (payload : List ℕ) (reply : Reply) : Type 0 where
  pub tree : Data
  pub is_utf8 : IsUtf8 payload
  pub is_json : read payload ≡ Some tree
  pub is_object : IsObject tree
  pub continues : IsFlag (get (codes "continues") tree) reply.continues
  pub error : IsError (get (codes "error") tree) reply.error
  pub parameters : AreParameters (get (codes "parameters") tree) reply.parameters

-- `reply_of` has a payload's reply, and no other
abbrev pub RepliesAre : Type 0
RepliesAre = (payload : List ℕ) (reply : Reply) → (reply_of payload ≡ Ok reply) ↔ IsReply payload reply
