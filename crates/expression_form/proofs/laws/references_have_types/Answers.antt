use Rattle.expression_form.proofs.Typed.{refs_have_types}
use Rattle.expression_form.proofs.laws.references_have_types.Goals as goal

pub returns : goal.returns
returns c = refs_have_types
