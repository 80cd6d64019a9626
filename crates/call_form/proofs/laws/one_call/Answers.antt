use Rattle.call_form.specs.CallText.{call_tree}
use Rattle.call_form.proofs.TextLemmas.{compact_text-NoNul}
use Rattle.call_form.proofs.laws.one_call.Goals as goal

pub returns : goal.returns
returns c = λ call. compact_text-NoNul (call_tree call)
