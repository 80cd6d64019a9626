-- The replies to a call whose rule ran.
use Rattle.std.specs.Prelude.{ℕ, Bool, true, false, List, [], ◌∷◌, codes, Option, Some, None}
use Rattle.serde_json.specs.Data.{Data, null}
use Rattle.idl_tree.specs.Names.{Bytes}
use Rattle.typed_value.specs.Shows.{ShowsFields}
use Rattle.typed_value.specs.declared.vals.Val.{Val}
use Rattle.sheet_step.specs.declared.dones.Done.{Done}
use Rattle.sheet_step.specs.declared.dones.Done.TheVariants as done
use Rattle.sheet_form.specs.declared.sheets.Contents.{Contents}
use Rattle.call_form.specs.declared.Raw.{Raw}
use Rattle.call_form.specs.declared.Reply.{Reply}
use Rattle.call_form.specs.declared.Outcome.{Outcome}
use Rattle.call_form.specs.declared.StdError.TheVariants.{InvalidParameter}
use Rattle.call_form.specs.StdErrors.{standard_of}
use Rattle.service_core.specs.Sheets.{Shape, output_of, error_of}
use Rattle.service_core.specs.Places.{plain, one}

-- the object that shows a value by a body; every reply of a sheet has one
abbrev pub shown : Option Shape → Val → Data
shown (Some shape) v = ShowsFields shape.0 shape.1 v
shown None v = null

abbrev pub are_more : List Val → Bool
are_more [] = false
are_more (v ∷ vs) = true

-- a reply for each value; those behind which others come say so
abbrev pub reply_of : Option Shape → Val → List Val → Reply
reply_of shape v later = record { parameters = shown shape v; continues = are_more later; error = None }

abbrev pub replies_of : Option Shape → List Val → List Reply
replies_of shape [] = []
replies_of shape (v ∷ later) = reply_of shape v later ∷ replies_of shape later

-- the reply that tells of a refused guard
abbrev pub refusal_of : Contents → ℕ → Bytes → Val → Reply
refusal_of sheet rule error parameters =
    record { parameters = shown (error_of sheet rule error) parameters; continues = false; error = Some error }

abbrev pub without_raw : List Reply → Outcome
without_raw replies = record { replies = replies; raw = None }

-- what a request of the rule at a place is answered with, by what its step came to
abbrev pub outcome_of : Contents → ℕ → Done → Outcome
outcome_of sheet rule (done.Replies values) = without_raw (replies_of (output_of sheet rule) values)
outcome_of sheet rule (done.Refused error parameters) = one (refusal_of sheet rule error parameters)
outcome_of sheet rule (done.Upgrade raw parameters) =
    record { replies = plain (shown (output_of sheet rule) parameters) ∷ []; raw = Some raw }
outcome_of sheet rule done.TooDeep = one (standard_of (InvalidParameter (codes "depth")))
