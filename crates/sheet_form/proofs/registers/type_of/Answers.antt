use Rattle.sheet_form.specs.Registers.{type_text, without_float}
use Rattle.sheet_form.proofs.Passing.{follows}
use Rattle.sheet_form.proofs.registers.type_of.Goals as goal

pub returns-in-Ok : goal.returns-in-Ok
returns-in-Ok c =
    follows (type_text c.args.interface.now c.args.register c.args.text.now) (without_float c.args.interface.now c.args.register)
    c.in-Ok.of c.without_float.result (rw c.as_bytes.ensures.value at c.in-Ok.ensures.answer) c.without_float.ensures
