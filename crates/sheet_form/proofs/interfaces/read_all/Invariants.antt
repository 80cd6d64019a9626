use Rattle.std.proofs.Common.{List, Result}
use Rattle.std.specs.Vec.Iter.{into_iter_items}
use Rattle.idl_tree.specs.declared.trees.Interface.{Interface}
use Rattle.sheet_form.specs.Answers.{Reads}
use Rattle.sheet_form.specs.Interfaces.{interfaces_from, interfaces_of}
use Rattle.sheet_form.specs.declared.faults.SheetFault.{SheetFault}
use Rattle.sheet_form.proofs.interfaces.read_all.Given as goal

abbrev pub invariant-loop-text : goal.invariant-loop-text
invariant-loop-text l = (answer : Result (List Interface) SheetFault)
    → Reads answer (interfaces_from l.read (into_iter_items l.text-iterator)) → Reads answer (interfaces_of l.fn.texts)
