-- What is told of a file that holds no sheet is the reason why.
use Rattle.std.proofs.Common.{◌∙◌, ℕ, List, Err, sym, subst}
use Rattle.sheet_form.specs.Sheets.{sheet_of}
use Rattle.varlink_command.proofs.Reasons.{not_memory}
use Rattle.varlink_command.proofs.reading.read_sheet.Goals as goal

pub returns-clause-reads : goal.returns-clause-reads
returns-clause-reads g c =
    let why = c.in-Err-read.why in
    let other = sym c.is_memory.ensures ∙ c.if-is_memory.false in
    record {
      text = c.in-Ok.bytes;
      holds = c.in-Ok.ensures.reads;
      caused = other;
      is = subst (λ (text : List ℕ). sheet_of text (Err why)) c.as_slice.ensures (c.in-Err-read.ensures.answer (not_memory why other));
    }
