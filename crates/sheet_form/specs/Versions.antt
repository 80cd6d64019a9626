-- Sheets of version 1: each rule is one branch without condition, which is the rule's object itself.
use Rattle.std.specs.Prelude.{◌≡◌, ℕ, Bool, true, false, Some, None, is_none, List, [], ◌∷◌, Result, Ok}
use Rattle.std.specs.List.{list_all}
use Rattle.serde_json.specs.Data.{Data}
use Rattle.idl_tree.specs.Names.{Bytes}
use Rattle.sheet_draft.specs.Answers.{◌>>=◌, at}
use Rattle.sheet_draft.specs.Outlines.{outline_of}
use Rattle.sheet_draft.specs.Rules.{parts_of}
use Rattle.sheet_draft.specs.Sheets.{json_of, draft_of_branch, rule_of}
use Rattle.sheet_draft.specs.declared.branches.BranchParts.{BranchParts}
use Rattle.sheet_draft.specs.declared.drafts.BranchDraft.{BranchDraft}
use Rattle.sheet_draft.specs.declared.drafts.RuleDraft.{RuleDraft}
use Rattle.sheet_draft.specs.declared.faults.DraftFault.{DraftFault}
use Rattle.sheet_draft.specs.declared.outlines.Outline.{Outline}
use Rattle.sheet_draft.specs.declared.outlines.Version.TheVariants.{One}
use Rattle.sheet_draft.specs.declared.places.Place.TheVariants.{Top}
use Rattle.sheet_rules.specs.declared.forms.Branch.{Branch}
use Rattle.sheet_rules.specs.declared.forms.Rule.{Rule}
use Rattle.sheet_form.specs.Sheets.{sheet_of}
use Rattle.sheet_form.specs.declared.sheets.Contents.{Contents}

-- the members of a sheet's object
abbrev pub outlined : List ℕ → Result Outline DraftFault
outlined text = json_of text >>= λ json. at Top (outline_of json)

-- the member `sheet` of a text is 1
abbrev pub IsVersionOne : List ℕ → Type 0
IsVersionOne text = (outline : Outline) × (outlined text ≡ Ok outline) × (outline.sheet ≡ One)

-- there is one branch, and it has no condition
abbrev pub is_plain_branch : List Branch → Bool
is_plain_branch [] = false
is_plain_branch (branch ∷ []) = is_none branch.when
is_plain_branch (branch ∷ (other ∷ branches)) = false

abbrev pub is_plain_rule : Rule → Bool
is_plain_rule rule = is_plain_branch rule.branches

-- of a sheet of version 1 each rule has one branch, without condition
abbrev pub VersionOneIsPlain : Type 0
VersionOneIsPlain = (text : List ℕ) (sheet : Contents) → IsVersionOne text → sheet_of text (Ok sheet)
    → list_all is_plain_rule sheet.rules ≡ true

-- a rule is read as one branch: it has the guards, the steps and the outcome that the rule's object has, and no condition
pub record IsItsBranch (name : Bytes) (json : Data) (rule : RuleDraft) : Type 0 where
  pub parts : BranchParts
  pub branch : BranchDraft
  pub parts_are : parts_of json ≡ Some parts
  pub branch_is : draft_of_branch name 0 parts ≡ Ok branch
  pub alone : rule.branches ≡ branch ∷ []
  pub always : branch.when ≡ None

abbrev pub VersionOneIsItsBranch : Type 0
VersionOneIsItsBranch = (name : Bytes) (json : Data) (rule : RuleDraft) → rule_of One name json ≡ Ok rule → IsItsBranch name json rule
