-- A text that is refused, want of memory apart, is no definition.
use Rattle.std.proofs.Common.{◌∙◌, sym}
use Rattle.varlink_command.proofs.Refusing.{refused}
use Rattle.varlink_command.proofs.reading.definition_of.Goals as goal

pub returns-in-Err-2 : goal.returns-in-Err-2
returns-in-Err-2 c = refused _ c.in-Err.why (sym c.is_want.ensures ∙ c.if-is_want.false) c.in-Err.ensures.answer c.in-Err.ensures.complete
