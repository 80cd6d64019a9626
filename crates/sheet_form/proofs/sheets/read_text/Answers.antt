use Rattle.sheet_form.proofs.DraftWays.{drafts_go_one_way}
use Rattle.sheet_form.proofs.sheets.read_text.Goals as goal

pub read_draft-requires : goal.read_draft-requires
read_draft-requires c = drafts_go_one_way c.args.text.now c.in-Ok.draft c.in-Ok.ensures
