-- Which payload is which reply, and the first fault of one that is none (varlink.org, "Method Call": a reply is an
-- object with optionally `parameters`, `continues` and `error`). A member that is null counts as absent, and unknown
-- members are ignored.
use Rattle.std.specs.Prelude.{◌≡◌, ℕ, List, Bool, false, ◌==◌, length, codes, if◌then◌else◌}
use Rattle.std.specs.Prelude.{Option, Some, None, Result, Ok, Err, is_some, ⊤}
use Rattle.std.specs.Str.Lossy.{utf8_valid_len}
use Rattle.serde_json.specs.Data.{Data, null, boolean, string, object, no_members}
use Rattle.serde_json.specs.Read.{read}
use Rattle.serde_json.specs.Find.{get, as_object}
use Rattle.serde_json.specs.View.{view}
use Rattle.serde_json.specs.declared.value.Value.{Value}
use Rattle.call_form.specs.declared.Reply.{Reply}
use Rattle.caller_form.specs.declared.faults.ReplyFault.{ReplyFault}
use Rattle.caller_form.specs.declared.faults.ReplyFault.TheVariants.{NotUtf8, NotJson, NotObject}
use Rattle.caller_form.specs.declared.faults.ReplyFault.TheVariants.{BadContinues, BadError, BadParameters, Memory}

infixl 10 ◌>>=◌
abbrev pub ◌>>=◌ : {A B : Type 0} → Result A ReplyFault → (A → Result B ReplyFault) → Result B ReplyFault
(Ok x) >>= f = f x
(Err fault) >>= f = Err fault

abbrev pub utf8_of : List ℕ → Result (List ℕ) ReplyFault
utf8_of payload =
    let valid = utf8_valid_len payload in
    if valid == length payload then Ok payload else Err (NotUtf8 valid)

abbrev pub found_json : Option Data → Result Data ReplyFault
found_json None = Err NotJson
found_json (Some tree) = Ok tree

abbrev pub json_of : List ℕ → Result Data ReplyFault
json_of text = found_json (read text)

abbrev pub object_of : Data → Result Data ReplyFault
object_of tree = if is_some (as_object tree) then Ok tree else Err NotObject

abbrev pub continues_of : Option Data → Result Bool ReplyFault
continues_of None = Ok false
continues_of (Some null) = Ok false
continues_of (Some (boolean flag)) = Ok flag
continues_of _ = Err BadContinues

abbrev pub error_of : Option Data → Result (Option (List ℕ)) ReplyFault
error_of None = Ok None
error_of (Some null) = Ok None
error_of (Some (string name)) = Ok (Some name)
error_of _ = Err BadError

abbrev pub parameters_of : Option Data → Result Data ReplyFault
parameters_of None = Ok (object no_members)
parameters_of (Some null) = Ok (object no_members)
parameters_of (Some (object members)) = Ok (object members)
parameters_of _ = Err BadParameters

-- the reply that an object is
unfoldable pub reply_in : Data → Result Reply ReplyFault
reply_in message = do
  more_follow ← continues_of (get (codes "continues") message)
  name ← error_of (get (codes "error") message)
  given ← parameters_of (get (codes "parameters") message)
  Ok (record { parameters = given; continues = more_follow; error = name })

-- the reply that a payload is, or its first fault
unfoldable pub reply_of : List ℕ → Result Reply ReplyFault
reply_of payload = do
  text ← utf8_of payload
  tree ← json_of text
  message ← object_of tree
  reply_in message

-- want of memory may come at any place; any other fault comes where the definition has it
abbrev pub Refuses : {A : Type 0} → ReplyFault → Result A ReplyFault → Type 0
Refuses Memory there = ⊤
Refuses fault there = there ≡ Err fault

-- what was read is what the definition has, unless memory was wanting
abbrev pub Reads : {A : Type 0} → Result A ReplyFault → Result A ReplyFault → Type 0
Reads (Ok x) there = there ≡ Ok x
Reads (Err fault) there = Refuses fault there

-- the same of a JSON value, which is read as its tree
abbrev pub ReadsJson : Result Value ReplyFault → Result Data ReplyFault → Type 0
ReadsJson (Ok value) there = there ≡ Ok (view value)
ReadsJson (Err fault) there = Refuses fault there

-- reading a payload as a reply gave this
abbrev pub ReadsReply : List ℕ → Result Reply ReplyFault → Type 0
ReadsReply payload result = Reads result (reply_of payload)
