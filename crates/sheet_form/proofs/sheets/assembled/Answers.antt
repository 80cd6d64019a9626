use Rattle.sheet_form.proofs.RulesTyped.{all_within}
use Rattle.sheet_form.proofs.sheets.assembled.Goals as goal

pub of-requires : goal.of-requires
of-requires c = rw (c.as_slice.ensures, c.as_slice-2.ensures) (all_within c.args.interfaces c.args.registers c.args.rules c.requires.rules.typed)
