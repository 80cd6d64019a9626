use Rattle.std.proofs.Common.{length}
use Rattle.sheet_form.specs.Interfaces.{definition, named_apart}
use Rattle.sheet_form.proofs.Passing.{follows}
use Rattle.sheet_form.proofs.interfaces.read_interface.Goals as goal

pub returns-in-Ok : goal.returns-in-Ok
returns-in-Ok c =
    let accepts = rw c.as_bytes.ensures.value at c.in-Ok.ensures.answer in
    let apart = rw c.as_slice.ensures at c.named_apart.ensures in
    follows (definition (length c.args.before.now) c.args.text.now) (named_apart c.args.before.now (length c.args.before.now))
    c.in-Ok.interface c.named_apart.result accepts apart
