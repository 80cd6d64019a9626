-- The text of a call as a message, and the parts of which it is put together (varlink.org, "Method Call": an object with
-- `method` and optionally `parameters`, `oneway`, `more` and `upgrade`, and a NUL byte after it).
use Rattle.std.specs.Prelude.{ℕ, List, [], ◌∷◌, ◌++◌, Bool, true, false, codes}
use Rattle.serde_json.specs.Data.{string}
use Rattle.serde_json.specs.Written.{compact_text}
use Rattle.call_form.specs.declared.Call.{Call}
use Rattle.call_form.specs.CallText.{call_tree}

-- a call as a message: its compact text and a NUL
abbrev pub call_bytes : Call → List ℕ
call_bytes call = compact_text (call_tree call) ++ 0 ∷ []

-- the first member as it stands in the text
abbrev pub method_text : List ℕ → List ℕ
method_text word = codes "{\"method\":" ++ compact_text (string word)

-- the member of a flag, which stands in the text only where the flag is true
abbrev pub flag_text : List ℕ → Bool → List ℕ
flag_text member true = member
flag_text member false = []
