use Rattle.std.proofs.Common.{[]}
use Rattle.sheet_form.specs.Registers.{registers_of}
use Rattle.sheet_form.proofs.OneAnswer.{one_registers}
use Rattle.sheet_form.proofs.Passing.{same_answer}
use Rattle.sheet_form.proofs.registers.read_registers.Goals as goal

pub returns-clause-exact : goal.returns-clause-exact
returns-clause-exact c = λ other there.
    same_answer (registers_of c.args.interfaces.now c.args.drafts) c.read_all.result other
    (one_registers c.args.interfaces.now [] c.args.drafts) c.read_all.ensures there
