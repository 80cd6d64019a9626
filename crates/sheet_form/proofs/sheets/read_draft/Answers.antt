use Rattle.std.proofs.Common.{List, Err}
use Rattle.sheet_rules.specs.declared.forms.Rule.{Rule}
use Rattle.sheet_form.specs.Answers.{done}
use Rattle.sheet_form.specs.Rules.{rules_of}
use Rattle.sheet_form.specs.Sheets.{Tables, contents, tables_of, with_rules}
use Rattle.sheet_form.proofs.Passing.{passes, follows}
use Rattle.sheet_form.proofs.KeptRegisters.{kept_tables}
use Rattle.sheet_form.proofs.RulesTyped.{kept_rules}
use Rattle.sheet_form.proofs.sheets.read_draft.Goals as goal

pub assembled-requires-clause-registers : goal.assembled-requires-clause-registers
assembled-requires-clause-registers c = kept_tables c.args.draft.interfaces c.args.draft.registers (c.in-Ok.interfaces, c.in-Ok.registers) c.in-Ok.ensures

pub assembled-requires-clause-rules : goal.assembled-requires-clause-rules
assembled-requires-clause-rules c =
    let read = rw c.as_slice.ensures at c.in-Ok-read_rules.ensures in
    kept_rules c.in-Ok.interfaces c.in-Ok.registers c.args.draft.rules c.in-Ok-read_rules.rules c.requires read

pub returns-in-Ok-read_rules : goal.returns-in-Ok-read_rules
returns-in-Ok-read_rules c =
    let read = rw c.as_slice.ensures at c.in-Ok-read_rules.ensures in
    let tables : Tables = (c.in-Ok.interfaces, c.in-Ok.registers) in
    follows (tables_of c.args.draft.interfaces c.args.draft.registers) (with_rules c.args.draft) tables c.assembled.result c.in-Ok.ensures
    (follows (rules_of c.in-Ok.interfaces c.in-Ok.registers c.args.draft.rules) (λ (rules : List Rule). done (contents c.args.draft.info tables rules))
    c.in-Ok-read_rules.rules c.assembled.result read c.assembled.ensures)

pub returns-in-Err-read_rules : goal.returns-in-Err-read_rules
returns-in-Err-read_rules c =
    let read = rw c.as_slice.ensures at c.in-Err-read_rules.ensures in
    let tables : Tables = (c.in-Ok.interfaces, c.in-Ok.registers) in
    follows (tables_of c.args.draft.interfaces c.args.draft.registers) (with_rules c.args.draft) tables (Err c.in-Err-read_rules.fault) c.in-Ok.ensures
    (passes (rules_of c.in-Ok.interfaces c.in-Ok.registers c.args.draft.rules) (λ (rules : List Rule). done (contents c.args.draft.info tables rules))
    c.in-Err-read_rules.fault read)
