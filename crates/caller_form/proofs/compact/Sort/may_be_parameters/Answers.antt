use Rattle.std.proofs.Common.{subst, inl, inr}
use Rattle.caller_form.specs.declared.compact.Sort.{Sort}
use Rattle.caller_form.specs.Compact.{IsOfSort}
use Rattle.caller_form.proofs.CompactLemmas.{null_given}
use Rattle.caller_form.proofs.ReplyLemmas.{parameters_of-object}
use Rattle.caller_form.proofs.compact.Sort.may_be_parameters.Goals as goal

pub returns-in-Null : goal.returns-in-Null
returns-in-Null c is tree of = elim c.in-Null.is [
  | inl none ↦ null_given tree (subst (λ (s : Sort). IsOfSort s tree) none of)
  | inr whole ↦ (tree, parameters_of-object tree (subst (λ (s : Sort). IsOfSort s tree) whole of))
]
