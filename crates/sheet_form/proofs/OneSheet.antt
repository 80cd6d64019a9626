-- a text has one answer
use Rattle.std.proofs.Common.{ℕ, List, [], ◌∷◌, ◌++◌, Result, Ok, Err}
use Rattle.idl_tree.specs.Names.{Bytes}
use Rattle.idl_tree.specs.declared.trees.Interface.{Interface}
use Rattle.sheet_draft.specs.Sheets.{draft_of}
use Rattle.sheet_draft.specs.declared.drafts.RegisterDraft.{RegisterDraft}
use Rattle.sheet_draft.specs.declared.drafts.RuleDraft.{RuleDraft}
use Rattle.sheet_draft.specs.declared.drafts.SheetDraft.{SheetDraft}
use Rattle.sheet_draft.specs.declared.faults.DraftFault.{DraftFault}
use Rattle.sheet_rules.specs.declared.forms.Register.{Register}
use Rattle.sheet_rules.specs.declared.forms.Rule.{Rule}
use Rattle.rule_form.specs.Rules.{rule_formed}
use Rattle.rule_form.specs.declared.faults.RuleFault.{RuleFault}
use Rattle.sheet_form.specs.Answers.{done, IsOne}
use Rattle.sheet_form.specs.Interfaces.{interfaces_of}
use Rattle.sheet_form.specs.Registers.{registers_of}
use Rattle.sheet_form.specs.Rules.{rule_fault, rule_told, rule_at, rules_from, rules_of}
use Rattle.sheet_form.specs.Sheets.{Tables, draft_fault, drafted, with_registers, tables_of, contents, with_rules, sheet_behind, sheet_of}
use Rattle.sheet_form.proofs.OneAnswer.{one_done, one_refused, one_then, one_interfaces, one_registers}

one_told : (name : Bytes) (there : Result Rule RuleFault) → IsOne (rule_told name there)
one_told name (Ok made) = one_done made
one_told name (Err fault) = one_refused (rule_fault name fault)

one_rules : (interfaces : List Interface) (registers : List Register) (before : List Rule) (drafts : List RuleDraft)
    → IsOne (rules_from interfaces registers before drafts)
one_rules interfaces registers before [] = one_done before
one_rules interfaces registers before (draft ∷ drafts) = one_then (rule_at interfaces registers draft)
    (λ (made : Rule). rules_from interfaces registers (before ++ made ∷ []) drafts)
    (one_told draft.name (rule_formed interfaces registers draft)) (λ made. one_rules interfaces registers (before ++ made ∷ []) drafts)

both : List Interface → List Register → Tables
both interfaces registers = (interfaces, registers)

one_both : (drafts : List RegisterDraft) (interfaces : List Interface) → IsOne (with_registers drafts interfaces)
unfolding both
one_both drafts interfaces = one_then (registers_of interfaces drafts) (λ (registers : List Register). done (both interfaces registers))
    (one_registers interfaces [] drafts) (λ registers. one_done (both interfaces registers))

one_tables : (texts : List Bytes) (drafts : List RegisterDraft) → IsOne (tables_of texts drafts)
one_tables texts drafts = one_then (interfaces_of texts) (with_registers drafts) (one_interfaces [] texts) (one_both drafts)

one_whole : (sheet : SheetDraft) (tables : Tables) → IsOne (with_rules sheet tables)
one_whole sheet tables = one_then (rules_of tables.0 tables.1 sheet.rules) (λ (rules : List Rule). done (contents sheet.info tables rules))
    (one_rules tables.0 tables.1 [] sheet.rules) (λ rules. one_done (contents sheet.info tables rules))

one_behind : (sheet : SheetDraft) → IsOne (sheet_behind sheet)
one_behind sheet = one_then (tables_of sheet.interfaces sheet.registers) (with_rules sheet)
    (one_tables sheet.interfaces sheet.registers) (one_whole sheet)

one_draft : (read : Result SheetDraft DraftFault) → IsOne (drafted read)
one_draft (Ok sheet) = one_done sheet
one_draft (Err fault) = one_refused (draft_fault fault)

pub one_sheet : (text : List ℕ) → IsOne (sheet_of text)
one_sheet text = one_then (drafted (draft_of text)) sheet_behind (one_draft (draft_of text)) one_behind
