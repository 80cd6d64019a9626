use Rattle.std.proofs.Common.{List, Result}
use Rattle.std.specs.Vec.Iter.{into_iter_items}
use Rattle.sheet_rules.specs.declared.forms.Register.{Register}
use Rattle.sheet_form.specs.Answers.{Reads}
use Rattle.sheet_form.specs.Registers.{registers_from, registers_of}
use Rattle.sheet_form.specs.declared.faults.SheetFault.{SheetFault}
use Rattle.sheet_form.proofs.registers.read_all.Given as goal

abbrev pub invariant-loop-draft : goal.invariant-loop-draft
invariant-loop-draft l = (answer : Result (List Register) SheetFault)
    → Reads answer (registers_from l.interfaces l.registers (into_iter_items l.draft-iterator))
    → Reads answer (registers_of l.interfaces l.fn.drafts)
