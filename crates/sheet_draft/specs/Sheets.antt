-- Which text is a sheet, with its draft, and where another leaves the form first: `Top`, which is the
-- sheet's object and the kinds of its members, then each interface, register and rule in order. In a
-- rule `Whole` comes first, which is its name, its branches and their members; then each branch in order,
-- and in it the condition, the guards, the steps and the outcome.
use Rattle.std.specs.Prelude.{ℕ, suc, List, [], ◌∷◌, ◌++◌, ◌==◌, length, if◌then◌else◌, Option, Some, None, option_map, Result, Ok, Err}
use Rattle.std.specs.Str.Lossy.{utf8_valid_len}
use Rattle.serde_json.specs.Data.{Data, Items, no_items, item, Members, no_members, member}
use Rattle.serde_json.specs.Find.{as_str}
use Rattle.serde_json.specs.Read.{read}
use Rattle.idl_tree.specs.Names.{Bytes}
use Rattle.sheet_draft.specs.Answers.{◌>>=◌, at}
use Rattle.expression_draft.specs.Expressions.{cond_of}
use Rattle.sheet_draft.specs.Rules.{guard_of, step_of, outcome_of}
use Rattle.sheet_draft.specs.Outlines.{outline_of, register_behind, stood, branches_by, at_last_dot}
use Rattle.sheet_draft.specs.declared.branches.BranchParts.{BranchParts}
use Rattle.sheet_draft.specs.declared.drafts.BranchDraft.{BranchDraft}
use Rattle.expression_draft.specs.declared.drafts.CondDraft.{CondDraft}
use Rattle.sheet_draft.specs.declared.drafts.RegisterDraft.{RegisterDraft}
use Rattle.sheet_draft.specs.declared.drafts.RuleDraft.{RuleDraft}
use Rattle.sheet_draft.specs.declared.drafts.SheetDraft.{SheetDraft}
use Rattle.sheet_draft.specs.declared.faults.DraftFault.{DraftFault}
use Rattle.sheet_draft.specs.declared.faults.DraftFault.TheVariants.{NotJson}
use Rattle.sheet_draft.specs.declared.outlines.Outline.{Outline}
use Rattle.sheet_draft.specs.declared.outlines.Version.{Version}
use Rattle.sheet_draft.specs.declared.places.Place.{Place}
use Rattle.sheet_draft.specs.declared.places.Place.TheVariants.{Top, Interface, Register, Rule}
use Rattle.sheet_draft.specs.declared.places.Spot.TheVariants.{Whole, When, Guard, Step, Outcome}

-- what each item reads as, in order from this number on, or the place of the first that doesn't read
abbrev pub each : {A : Type 0} → (ℕ → Place) → (Data → Option A) → ℕ → Items → Result (List A) DraftFault
each place reads k no_items = Ok []
each place reads k (item d ds) = do
  x ← at (place k) (reads d)
  xs ← each place reads (suc k) ds
  Ok (x ∷ xs)

-- the condition of a branch, where it has one
abbrev pub when_of : Option Data → Option (Option CondDraft)
when_of None = Some None
when_of (Some d) = option_map Some (cond_of d)

-- a branch of the rule of this name: guards, steps and outcome behind its condition
abbrev pub behind_when : Bytes → ℕ → Option CondDraft → Items → Items → Data → Result BranchDraft DraftFault
behind_when name b when guard_items step_items end = do
  guards ← each (λ k. Rule name (Guard b k)) guard_of 0 guard_items
  steps ← each (λ k. Rule name (Step b k)) step_of 0 step_items
  outcome ← at (Rule name (Outcome b)) (outcome_of end)
  Ok (record { when = when; guards = guards; steps = steps; outcome = outcome })

unfoldable pub draft_of_branch : Bytes → ℕ → BranchParts → Result BranchDraft DraftFault
draft_of_branch name b parts = do
  when ← at (Rule name (When b)) (when_of parts.when)
  behind_when name b when parts.guards parts.steps parts.outcome

-- branches from this number on
abbrev pub branches_from : Bytes → ℕ → List BranchParts → Result (List BranchDraft) DraftFault
branches_from name b [] = Ok []
branches_from name b (parts ∷ behind) = do
  branch ← draft_of_branch name b parts
  branches ← branches_from name (suc b) behind
  Ok (branch ∷ branches)

-- the branches of the rule of this name
abbrev pub branches_read : Version → Bytes → Data → Result (List BranchDraft) DraftFault
branches_read version name d = do
  parts ← at (Rule name Whole) (branches_by version d)
  branches_from name 0 parts

-- a rule of this name
unfoldable pub rule_of : Version → Bytes → Data → Result RuleDraft DraftFault
rule_of version name d = do
  parts ← at (Rule name Whole) (at_last_dot name)
  branches ← branches_read version name d
  Ok (record { name = name; interface = parts.0; method = parts.1; branches = branches })

abbrev pub rules_in : Version → Members → Result (List RuleDraft) DraftFault
rules_in version no_members = Ok []
rules_in version (member name d behind) = do
  rule ← rule_of version name d
  rules ← rules_in version behind
  Ok (rule ∷ rules)

-- registers from this number on, behind those of these names
abbrev pub registers_from : List Bytes → ℕ → Items → Result (List RegisterDraft) DraftFault
registers_from before k no_items = Ok []
registers_from before k (item d behind) = do
  register ← at (Register k) (register_behind (stood before) d)
  registers ← registers_from (before ++ register.name ∷ []) (suc k) behind
  Ok (register ∷ registers)

-- the sheet that a JSON tree is, by names, or the first place where it is none
abbrev pub sheet_behind : Outline → Result SheetDraft DraftFault
sheet_behind outline = do
  interfaces ← each Interface as_str 0 outline.contents.interfaces
  registers ← registers_from [] 0 outline.contents.registers
  rules ← rules_in outline.sheet outline.contents.rules
  Ok (record { info = outline.info; interfaces = interfaces; registers = registers; rules = rules })

unfoldable pub sheet_of : Data → Result SheetDraft DraftFault
sheet_of d = do
  outline ← at Top (outline_of d)
  sheet_behind outline

-- the tree of a text that is UTF-8 and JSON
abbrev pub found_json : Option Data → Result Data DraftFault
found_json None = Err NotJson
found_json (Some d) = Ok d

abbrev pub json_of : List ℕ → Result Data DraftFault
json_of text = if utf8_valid_len text == length text then found_json (read text) else Err NotJson

-- the sheet that a text is, by names, or why it is none
unfoldable pub draft_of : List ℕ → Result SheetDraft DraftFault
draft_of text = json_of text >>= sheet_of
