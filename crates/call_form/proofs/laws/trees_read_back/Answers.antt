use Rattle.call_form.proofs.ReadBack.{trees_read_back}
use Rattle.call_form.proofs.laws.trees_read_back.Goals as goal

pub returns : goal.returns
returns c = trees_read_back
