use Rattle.std.proofs.Common.{[], ◌∷◌, ◌++◌}
use Rattle.idl_tree.specs.declared.trees.Interface.{Interface}
use Rattle.sheet_form.specs.Answers.{done}
use Rattle.sheet_form.specs.Interfaces.{interface_behind}
use Rattle.sheet_form.proofs.Names.{fresh}
use Rattle.sheet_form.proofs.Passing.{passes}
use Rattle.sheet_form.proofs.interfaces.with_text.Goals as goal

pub with-requires : goal.with-requires
with-requires c = fresh c.args.read c.as_str.result.now c.in-Ok.interface c.in-Ok.ensures

pub returns-in-Ok : goal.returns-in-Ok
returns-in-Ok c = (c.in-Ok.interface, rw c.as_str.ensures at c.in-Ok.ensures, c.in_ok-with-in-Ok.ensures)

pub returns : goal.returns
returns c = passes (interface_behind c.args.read c.args.text) (λ (interface : Interface). done (c.args.read ++ interface ∷ []))
    c.in-Err.fault (rw c.as_str.ensures at c.in-Err.ensures)
