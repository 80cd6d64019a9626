use Rattle.std.proofs.Common.{[]}
use Rattle.sheet_form.specs.Interfaces.{interfaces_of}
use Rattle.sheet_form.proofs.OneAnswer.{one_interfaces}
use Rattle.sheet_form.proofs.Passing.{same_answer}
use Rattle.sheet_form.proofs.interfaces.read_interfaces.Goals as goal

pub returns-clause-exact : goal.returns-clause-exact
returns-clause-exact c = λ other there. same_answer (interfaces_of c.args.texts) c.read_all.result other (one_interfaces [] c.args.texts) c.read_all.ensures there
