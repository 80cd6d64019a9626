use Rattle.std.proofs.Common.{inl, inr}
use Rattle.caller_form.proofs.FoundLemmas.{takes_none, takes_object}
use Rattle.caller_form.proofs.heads.parameters.Goals as goal

pub returns-in-Null : goal.returns-in-Null
returns-in-Null c there is = elim c.in-Null.is [
  | inl null ↦ takes_none c.args.kind there null is
  | inr whole ↦ takes_object c.args.kind there whole is
]
