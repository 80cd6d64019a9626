use Rattle.service_core.proofs.Members.{input_struct}
use Rattle.service_core.proofs.places.input_of.Goals as goal

pub returns-in-Some-clause-of_struct : goal.returns-in-Some-clause-of_struct
returns-in-Some-clause-of_struct c = input_struct c.args.home.now c.args.method.now _ c.tree-tree.ensures.formed c.in-Some.ensures
