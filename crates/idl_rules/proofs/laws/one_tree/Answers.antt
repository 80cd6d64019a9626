use Rattle.idl_rules.proofs.Uniqueness.{one_tree}
use Rattle.idl_rules.proofs.laws.one_tree.Goals as goal

pub returns : goal.returns
returns c = one_tree
