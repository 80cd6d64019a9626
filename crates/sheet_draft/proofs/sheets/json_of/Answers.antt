use Rattle.sheet_draft.proofs.JsonTexts.{json_is}
use Rattle.sheet_draft.proofs.sheets.json_of.Goals as goal

pub returns-in-Ok-from_str : goal.returns-in-Ok-from_str
returns-in-Ok-from_str c =
    let read = rw c.in-Ok.ensures.cases.0 at c.in-Ok-from_str.ensures.ok in
    rw c.of.ensures.tree (json_is c.args.text.now _ c.in-Ok.ensures.cases.1 read)
