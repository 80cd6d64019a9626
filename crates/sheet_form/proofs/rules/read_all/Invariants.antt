use Rattle.std.proofs.Common.{List, Result}
use Rattle.std.specs.Vec.Iter.{into_iter_items}
use Rattle.sheet_rules.specs.declared.forms.Rule.{Rule}
use Rattle.sheet_form.specs.Answers.{Reads}
use Rattle.sheet_form.specs.Rules.{rules_from, rules_of}
use Rattle.sheet_form.specs.declared.faults.SheetFault.{SheetFault}
use Rattle.sheet_form.proofs.rules.read_all.Given as goal

abbrev pub invariant-loop-draft : goal.invariant-loop-draft
invariant-loop-draft l = (answer : Result (List Rule) SheetFault)
    → Reads answer (rules_from l.interfaces l.registers l.rules (into_iter_items l.draft-iterator))
    → Reads answer (rules_of l.interfaces l.registers l.fn.drafts)
