use Rattle.standard_calls.proofs.MethodForms.{output_struct}
use Rattle.standard_calls.proofs.descriptions.output_of.Goals as goal

pub returns-in-Some-clause-of_struct : goal.returns-in-Some-clause-of_struct
returns-in-Some-clause-of_struct c = output_struct c.args.scope.now c.args.method.now _ c.tree-tree.ensures.formed c.in-Some.ensures
