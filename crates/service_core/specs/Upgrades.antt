-- An upgrade that is accepted by a reply that is made when it is asked for.
use Rattle.std.specs.Prelude.{ℕ, Bool, [], ◌∷◌, Some, if◌then◌else◌}
use Rattle.typed_value.specs.declared.vals.Val.{Val}
use Rattle.sheet_form.specs.declared.sheets.Contents.{Contents}
use Rattle.call_form.specs.declared.Raw.{Raw}
use Rattle.call_form.specs.declared.Reply.{Reply}
use Rattle.call_form.specs.declared.Outcome.{Outcome}
use Rattle.service_core.specs.Sheets.{output_of}
use Rattle.service_core.specs.Places.{plain}
use Rattle.service_core.specs.Outcomes.{shown}

-- what the service serves, the place of a rule, what becomes of the bytes behind the reply, the value that the reply shows,
-- and whether the reply was given
pub record Accepted : Type 0 where
  pub sheet : Contents
  pub rule : ℕ
  pub raw : Raw
  pub value : Val
  pub given : Bool

-- the reply that accepts it
abbrev pub acceptance : Accepted → Reply
acceptance accepted = plain (shown (output_of accepted.sheet accepted.rule) accepted.value)

-- the one reply, until it was given; the upgrade is accepted before and after
abbrev pub left_accepted : Accepted → Outcome
left_accepted accepted = record { replies = if accepted.given then [] else (acceptance accepted ∷ []); raw = Some accepted.raw }
