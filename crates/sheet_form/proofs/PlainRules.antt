-- of a sheet of version 1 each rule has one branch, without condition
use Rattle.std.proofs.Common.{◌≡◌, true, not, List, [], ◌∷◌, map, Option, Some, None, is_some, is_none, Result, Ok, Err, refl, sym, ap, ◌∙◌}
use Rattle.std.specs.List.{list_all}
use Rattle.idl_tree.specs.declared.trees.Interface.{Interface}
use Rattle.sheet_draft.specs.Sheets.{draft_of}
use Rattle.sheet_draft.specs.declared.drafts.RuleDraft.{RuleDraft}
use Rattle.sheet_draft.specs.declared.drafts.SheetDraft.{SheetDraft}
use Rattle.sheet_draft.specs.declared.faults.DraftFault.{DraftFault}
use Rattle.sheet_rules.specs.declared.forms.Branch.{Branch}
use Rattle.sheet_rules.specs.declared.forms.Cond.{Cond}
use Rattle.sheet_rules.specs.declared.forms.Register.{Register}
use Rattle.sheet_rules.specs.declared.forms.Rule.{Rule}
use Rattle.rule_form.specs.Rules.{rule_formed}
use Rattle.rule_form.proofs.Typed.{asks, formed_asks}
use Rattle.sheet_form.specs.Sheets.{drafted}
use Rattle.sheet_form.specs.Versions.{is_plain_branch, is_plain_rule, VersionOneIsPlain}
use Rattle.sheet_form.specs.declared.sheets.Contents.{Contents}
use Rattle.sheet_form.proofs.DraftWays.{is_plain, draft_is_plain, drafts_are_plain}
use Rattle.sheet_form.proofs.RulesTyped.{all_hold}

drafted_is : (found : Result SheetDraft DraftFault) (draft : SheetDraft) → drafted found (Ok draft) → found ≡ Ok draft
drafted_is (Ok sheet) draft h = ap Ok (sym h)
drafted_is (Err fault) draft h = absurd h

none_is : (when : Option Cond) → is_none when ≡ not (is_some when)
none_is None = refl
none_is (Some cond) = refl

plain_is : (branches : List Branch) → is_plain_branch branches ≡ is_plain (map asks branches)
plain_is [] = refl
plain_is (branch ∷ []) = none_is branch.when
plain_is (branch ∷ (other ∷ branches)) = refl

plain_rule : (interfaces : List Interface) (registers : List Register) (draft : RuleDraft) (made : Rule)
    → rule_formed interfaces registers draft ≡ Ok made → draft_is_plain draft ≡ true → is_plain_rule made ≡ true
plain_rule interfaces registers draft made formed h =
    plain_is made.branches ∙ ap is_plain (formed_asks interfaces registers draft made formed) ∙ h

pub version_one_is_plain : VersionOneIsPlain
version_one_is_plain text sheet one (draft, read, (tables, tabled, (rules, formed, same))) =
    let plain = drafts_are_plain text draft one.0 (drafted_is (draft_of text) draft read) one.1 one.2 in
    ap (λ (s : Contents). list_all is_plain_rule s.rules) same
    ∙ all_hold tables.0 tables.1 is_plain_rule draft_is_plain (plain_rule tables.0 tables.1) [] draft.rules rules refl plain formed
