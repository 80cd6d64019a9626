use Rattle.sheet_form.specs.Sheets.{sheet_of}
use Rattle.sheet_form.proofs.OneSheet.{one_sheet}
use Rattle.sheet_form.proofs.Passing.{same_answer}
use Rattle.sheet_form.proofs.sheets.read.Goals as goal

pub returns-clause-exact : goal.returns-clause-exact
returns-clause-exact c = λ other there. same_answer (sheet_of c.args.text.now) c.read_text.result other (one_sheet c.args.text.now) c.read_text.ensures there
