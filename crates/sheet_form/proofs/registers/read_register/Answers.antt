use Rattle.std.proofs.Common.{ℕ, sym}
use Rattle.idl_tree.specs.declared.trees.Interface.{Interface}
use Rattle.sheet_form.specs.Answers.{given}
use Rattle.sheet_form.specs.Interfaces.{interface_placed}
use Rattle.sheet_form.specs.Registers.{register_in}
use Rattle.sheet_form.specs.declared.faults.SheetFault.TheVariants.{Scope}
use Rattle.sheet_form.proofs.Passing.{follows, given_some}
use Rattle.sheet_form.proofs.registers.read_register.Goals as goal

pub returns-in-Some : goal.returns-in-Some
returns-in-Some c =
    let there = rw c.as_str.ensures at c.in-Some.ensures in
    follows (given (Scope c.args.register) (interface_placed c.args.interfaces.now c.args.draft.scope))
    (λ (found : ℕ × Interface). register_in found.0 found.1 c.args.register c.args.draft)
    (c.in-Some.scope, c.in-Some.interface.now) c.register_in.result
    (given_some (Scope c.args.register) (interface_placed c.args.interfaces.now c.args.draft.scope) (c.in-Some.scope, c.in-Some.interface.now) (sym there))
    c.register_in.ensures
