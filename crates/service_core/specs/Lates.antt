-- Replies that are made when they are asked for: the values are there, and from which place on they are still to come.
use Rattle.std.specs.Prelude.{ℕ, List, drop}
use Rattle.typed_value.specs.declared.vals.Val.{Val}
use Rattle.sheet_form.specs.declared.sheets.Contents.{Contents}
use Rattle.call_form.specs.declared.Outcome.{Outcome}
use Rattle.service_core.specs.Sheets.{output_of}
use Rattle.service_core.specs.Outcomes.{replies_of, without_raw}

-- what the service serves, the place of a rule, the values of its replies, and the place of the next one
pub record Held : Type 0 where
  pub sheet : Contents
  pub rule : ℕ
  pub values : List Val
  pub next : ℕ

-- the replies to the values from that place on
abbrev pub left_late : Held → Outcome
left_late late = without_raw (replies_of (output_of late.sheet late.rule) (drop late.next late.values))
