-- Which text is a sheet, and why another is none: it is no JSON, or has not the form of a sheet; then
-- each definition, each register and each rule in order.
use Rattle.std.specs.Prelude.{ℕ, List, Result, Ok, Err}
use Rattle.idl_tree.specs.Names.{Bytes}
use Rattle.idl_tree.specs.declared.trees.Interface.{Interface}
use Rattle.sheet_draft.specs.Sheets.{draft_of}
use Rattle.sheet_draft.specs.declared.drafts.Info.{Info}
use Rattle.sheet_draft.specs.declared.drafts.RegisterDraft.{RegisterDraft}
use Rattle.sheet_draft.specs.declared.drafts.SheetDraft.{SheetDraft}
use Rattle.sheet_draft.specs.declared.faults.DraftFault.{DraftFault}
use Rattle.sheet_draft.specs.declared.faults.DraftFault.TheVariants as draft
use Rattle.sheet_rules.specs.declared.forms.Register.{Register}
use Rattle.sheet_rules.specs.declared.forms.Rule.{Rule}
use Rattle.sheet_form.specs.Answers.{Reading, done, refused, ◌>>=◌}
use Rattle.sheet_form.specs.Interfaces.{interfaces_of}
use Rattle.sheet_form.specs.Registers.{registers_of}
use Rattle.sheet_form.specs.Rules.{rules_of}
use Rattle.sheet_form.specs.declared.faults.SheetFault.{SheetFault}
use Rattle.sheet_form.specs.declared.faults.SheetFault.TheVariants.{NotJson, Shape, Memory}
use Rattle.sheet_form.specs.declared.sheets.Contents.{Contents}

abbrev pub draft_fault : DraftFault → SheetFault
draft_fault draft.NotJson = NotJson
draft_fault (draft.Shape place) = Shape place
draft_fault draft.Memory = Memory

abbrev pub drafted : Result SheetDraft DraftFault → Reading SheetDraft
drafted (Ok sheet) = done sheet
drafted (Err fault) = refused (draft_fault fault)

abbrev pub Tables : Type 0
Tables = List Interface × List Register

abbrev pub with_registers : List RegisterDraft → List Interface → Reading Tables
with_registers drafts interfaces = do
  registers ← registers_of interfaces drafts
  let both : Tables = (interfaces, registers)
  done both

-- the interfaces and the registers
abbrev pub tables_of : List Bytes → List RegisterDraft → Reading Tables
tables_of texts drafts = do
  interfaces ← interfaces_of texts
  with_registers drafts interfaces

abbrev pub contents : Info → Tables → List Rule → Contents
contents info tables rules = record { info = info; interfaces = tables.0; registers = tables.1; rules = rules }

-- the sheet that a draft is, where these are its interfaces and registers
abbrev pub with_rules : SheetDraft → Tables → Reading Contents
with_rules sheet tables = do
  rules ← rules_of tables.0 tables.1 sheet.rules
  done (contents sheet.info tables rules)

abbrev pub sheet_behind : SheetDraft → Reading Contents
sheet_behind sheet = do
  tables ← tables_of sheet.interfaces sheet.registers
  with_rules sheet tables

-- the sheet that a text is, or why it is none
abbrev pub sheet_of : List ℕ → Reading Contents
sheet_of text = do
  sheet ← drafted (draft_of text)
  sheet_behind sheet
