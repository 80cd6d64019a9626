-- Which payload is which call, member by member and with no order of faults, and that the text of a
-- reply is one message (varlink.org, "Method Call").
use Rattle.std.specs.Prelude.{◌≡◌, ◌≢◌, ◌⊎◌, ◌↔◌, ℕ, List, Bool, false, codes, Option, Some, None}
use Rattle.std.specs.Prelude.{Ok, IsUtf8}
use Rattle.std.specs.List.{AllByRecursion}
use Rattle.serde_json.specs.Data.{Data, null, boolean, string, object, no_members}
use Rattle.serde_json.specs.Read.{read}
use Rattle.serde_json.specs.Find.{get}
use Rattle.serde_json.specs.Written.{compact_text}
use Rattle.call_form.specs.declared.Call.{Call}
use Rattle.call_form.specs.declared.Reply.{Reply}
use Rattle.call_form.specs.CallOf.{IsObject, call_of}
use Rattle.call_form.specs.ReplyText.{reply_tree}

-- a member counts as absent
abbrev pub IsAbsent : Option Data → Type 0
IsAbsent found = (found ≡ None) ⊎ (found ≡ Some null)

-- the flag that a member is
abbrev pub IsFlag : Option Data → Bool → Type 0
IsFlag found flag = (found ≡ Some (boolean flag)) ⊎ (IsAbsent found × (flag ≡ false))

-- the parameters that a member is
abbrev pub AreParameters : Option Data → Data → Type 0
AreParameters found parameters =
    (IsObject parameters × (found ≡ Some parameters))
    ⊎ (IsAbsent found × (parameters ≡ object no_members))

-- the payload is UTF-8 and JSON, its tree is an object, and the members are those of the call
pub record IsCall (payload : List ℕ) (call : Call) : Type 0 where
  pub tree : Data
  pub is_utf8 : IsUtf8 payload
  pub is_json : read payload ≡ Some tree
  pub is_object : IsObject tree
  pub method : get (codes "method") tree ≡ Some (string call.method)
  pub oneway : IsFlag (get (codes "oneway") tree) call.oneway
  pub more : IsFlag (get (codes "more") tree) call.more
  pub upgrade : IsFlag (get (codes "upgrade") tree) call.upgrade
  pub parameters : AreParameters (get (codes "parameters") tree) call.parameters

-- `call_of` has a payload's call, and no other
abbrev pub CallsAre : Type 0
CallsAre = (payload : List ℕ) (call : Call) → (call_of payload ≡ Ok call) ↔ IsCall payload call

-- the text of a reply holds no NUL, whatever its error and parameters hold: so the NUL after it is
-- the end of the message
abbrev pub OneMessage : Type 0
OneMessage = (reply : Reply) → AllByRecursion (λ b. b ≢ 0) (compact_text (reply_tree reply))
