use Rattle.sheet_form.proofs.OneSheet.{one_sheet}
use Rattle.sheet_form.proofs.laws.one_answer.Goals as goal

pub returns : goal.returns
returns c = one_sheet
