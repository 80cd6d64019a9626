-- Which payload is which call, and the first fault of one that is none (varlink.org, "Method
-- Call": a
-- call is an object with `method` and optionally `parameters`, `oneway`, `more` and `upgrade`). A
-- member that is null counts as absent, and unknown members are ignored.
use Rattle.std.specs.Prelude.{◌≡◌, ℕ, List, Bool, false, ◌==◌, length, codes, if◌then◌else◌}
use Rattle.std.specs.Prelude.{IsTrue, Option, Some, None, Result, Ok, Err, is_some, ⊤}
use Rattle.std.specs.Str.Lossy.{utf8_valid_len}
use Rattle.serde_json.specs.Data.{Data, null, boolean, string, object, no_members}
use Rattle.serde_json.specs.Read.{read}
use Rattle.serde_json.specs.Find.{get, as_object}
use Rattle.serde_json.specs.View.{view}
use Rattle.serde_json.specs.declared.value.Value.{Value}
use Rattle.call_form.specs.declared.Call.{Call}
use Rattle.call_form.specs.declared.CallFault.{CallFault}
use Rattle.call_form.specs.declared.CallFault.TheVariants.{NotUtf8, NotJson, NotObject, NoMethod}
use Rattle.call_form.specs.declared.CallFault.TheVariants.{BadFlag, BadParameters, Memory}

infixl 10 ◌>>=◌
abbrev pub ◌>>=◌ : {A B : Type 0} → Result A CallFault → (A → Result B CallFault) →
    Result B CallFault
(Ok x) >>= f = f x
(Err fault) >>= f = Err fault

-- the JSON tree is an object
abbrev pub IsObject : Data → Type 0
IsObject tree = IsTrue (is_some (as_object tree))

abbrev pub utf8_of : List ℕ → Result (List ℕ) CallFault
utf8_of payload =
    let valid = utf8_valid_len payload in
    if valid == length payload then Ok payload else Err (NotUtf8 valid)

abbrev pub found_json : Option Data → Result Data CallFault
found_json None = Err NotJson
found_json (Some tree) = Ok tree

abbrev pub json_of : List ℕ → Result Data CallFault
json_of text = found_json (read text)

abbrev pub object_of : Data → Result Data CallFault
object_of tree = if is_some (as_object tree) then Ok tree else Err NotObject

abbrev pub method_of : Option Data → Result (List ℕ) CallFault
method_of (Some (string word)) = Ok word
method_of _ = Err NoMethod

abbrev pub flag_of : Option Data → Result Bool CallFault
flag_of None = Ok false
flag_of (Some null) = Ok false
flag_of (Some (boolean flag)) = Ok flag
flag_of _ = Err BadFlag

abbrev pub parameters_of : Option Data → Result Data CallFault
parameters_of None = Ok (object no_members)
parameters_of (Some null) = Ok (object no_members)
parameters_of (Some (object members)) = Ok (object members)
parameters_of _ = Err BadParameters

-- the call that an object is
unfoldable pub call_in : Data → Result Call CallFault
call_in message = do
  word ← method_of (get (codes "method") message)
  oneway ← flag_of (get (codes "oneway") message)
  more ← flag_of (get (codes "more") message)
  upgrade ← flag_of (get (codes "upgrade") message)
  given ← parameters_of (get (codes "parameters") message)
  Ok (record { method = word; parameters = given; oneway = oneway; more = more; upgrade = upgrade })

-- the call that a payload is, or its first fault
unfoldable pub call_of : List ℕ → Result Call CallFault
call_of payload = do
  text ← utf8_of payload
  tree ← json_of text
  message ← object_of tree
  call_in message

-- want of memory may come at any place; any other fault comes where the definition has it
abbrev pub Refuses : {A : Type 0} → CallFault → Result A CallFault → Type 0
Refuses Memory there = ⊤
Refuses fault there = there ≡ Err fault

-- what was read is what the definition has, unless memory was wanting
abbrev pub Reads : {A : Type 0} → Result A CallFault → Result A CallFault → Type 0
Reads (Ok x) there = there ≡ Ok x
Reads (Err fault) there = Refuses fault there

-- the same of a JSON value, which is read as its tree
abbrev pub ReadsJson : Result Value CallFault → Result Data CallFault → Type 0
ReadsJson (Ok value) there = there ≡ Ok (view value)
ReadsJson (Err fault) there = Refuses fault there

-- reading a payload as a call gave this
abbrev pub ReadsCall : List ℕ → Result Call CallFault → Type 0
ReadsCall payload result = Reads result (call_of payload)
