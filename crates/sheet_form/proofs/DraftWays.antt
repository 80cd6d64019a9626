-- of the branches of a rule that is read by names, the last alone has no condition
use Rattle.std.proofs.Common.{◌≡◌, ℕ, suc, Bool, true, false, ◌&&◌, not, List, [], ◌∷◌, map, Option, Some, None, is_some, option_map, Result, Ok, Err, refl, sym, ap, ◌∙◌, subst}
use Rattle.std.proofs.lemmas.Bool.{and_from}
use Rattle.std.specs.List.{list_all}
use Rattle.serde_json.specs.Data.{Data, Items, Members, no_members, member}
use Rattle.serde_json.specs.Find.{as_str}
use Rattle.idl_tree.specs.Names.{Bytes}
use Rattle.expression_draft.specs.Expressions.{cond_of}
use Rattle.expression_draft.specs.declared.drafts.CondDraft.{CondDraft}
use Rattle.sheet_draft.specs.Answers.{◌>>=◌, at}
use Rattle.sheet_draft.specs.Outlines.{outline_of, branches_by, at_last_dot}
use Rattle.sheet_draft.specs.Rules.{guard_of, step_of, outcome_of}
use Rattle.sheet_draft.specs.Sheets.{each, when_of, behind_when, draft_of_branch, branches_from, branches_read, rule_of, rules_in, registers_from, sheet_behind, sheet_of, json_of, draft_of}
use Rattle.sheet_draft.specs.declared.branches.BranchParts.{BranchParts}
use Rattle.sheet_draft.specs.declared.drafts.GuardDraft.{GuardDraft}
use Rattle.sheet_draft.specs.declared.drafts.ActionDraft.{ActionDraft}
use Rattle.sheet_draft.specs.declared.drafts.EndingDraft.{EndingDraft}
use Rattle.sheet_draft.specs.declared.drafts.BranchDraft.{BranchDraft}
use Rattle.sheet_draft.specs.declared.drafts.RegisterDraft.{RegisterDraft}
use Rattle.sheet_draft.specs.declared.drafts.RuleDraft.{RuleDraft}
use Rattle.sheet_draft.specs.declared.drafts.SheetDraft.{SheetDraft}
use Rattle.sheet_draft.specs.declared.faults.DraftFault.{DraftFault}
use Rattle.sheet_draft.specs.declared.outlines.Outline.{Outline}
use Rattle.sheet_draft.specs.declared.outlines.Version.{Version}
use Rattle.sheet_draft.specs.declared.outlines.Version.TheVariants.{One}
use Rattle.sheet_draft.specs.declared.places.Place.{Place}
use Rattle.sheet_draft.specs.declared.places.Place.TheVariants.{Top, Rule}
use Rattle.sheet_draft.specs.declared.places.Place.TheVariants as place
use Rattle.sheet_draft.specs.declared.places.Spot.TheVariants.{Whole, When, Guard, Step, Outcome}
use Rattle.rule_form.specs.Rules.{has_one_way}
use Rattle.rule_form.proofs.Typed.{draft_asks}
use Rattle.sheet_form.specs.Kept.{draft_goes_one_way}
use Rattle.sheet_form.specs.Versions.{outlined, VersionOneIsItsBranch}
use Rattle.sheet_form.proofs.Branches.{part_asks, ends_alone, branches_ways, sole_branch, branches_of_one}

module _ {A : Type 0} where
  pub ok_is : {x y : A} → ◌≡◌ {A = Result A DraftFault} (Ok x) (Ok y) → x ≡ y
  ok_is h = (cc)

  err_ok : {x : A} {fault : DraftFault} → ◌≡◌ {A = Result A DraftFault} (Err fault) (Ok x) → ⊥
  err_ok h = absurd (cc)

  some_is : {x y : A} → ◌≡◌ {A = Option A} (Some x) (Some y) → x ≡ y
  some_is h = (cc)

  none_some : {x : A} → ◌≡◌ {A = Option A} None (Some x) → ⊥
  none_some h = absurd (cc)

  found_at : (here : Place) (o : Option A) (x : A) → at here o ≡ Ok x → o ≡ Some x
  found_at here None x h = absurd (err_ok h)
  found_at here (Some y) x h = ap Some (ok_is h)

parted : {A B : Type 0} (o : Result A DraftFault) (f : A → Result B DraftFault) (y : B) → (o >>= f) ≡ Ok y → (x : A) × (o ≡ Ok x) × (f x ≡ Ok y)
parted (Err fault) f y h = absurd (err_ok h)
parted (Ok x) f y h = (x, refl, h)

-- ---- branches

branch_with : Option CondDraft → List GuardDraft → List ActionDraft → EndingDraft → BranchDraft
branch_with when guards steps outcome = record { when = when; guards = guards; steps = steps; outcome = outcome }

when_kept : (name : Bytes) (b : ℕ) (when : Option CondDraft) (guards steps : Items) (end : Data) (branch : BranchDraft)
    → behind_when name b when guards steps end ≡ Ok branch → branch.when ≡ when
unfolding branch_with
when_kept name b when guards steps end branch h =
    let outcomes : List GuardDraft → List ActionDraft → Result BranchDraft DraftFault =
    λ gs xs. at (Rule name (Outcome b)) (outcome_of end) >>= λ (outcome : EndingDraft). Ok (branch_with when gs xs outcome) in
    let first = parted (each (λ k. Rule name (Guard b k)) guard_of 0 guards)
    (λ (gs : List GuardDraft). each (λ k. Rule name (Step b k)) step_of 0 steps >>= outcomes gs) branch h in
    let next = parted (each (λ k. Rule name (Step b k)) step_of 0 steps) (outcomes first.0) branch first.2 in
    let last = parted (at (Rule name (Outcome b)) (outcome_of end))
    (λ (outcome : EndingDraft). Ok (branch_with when first.0 next.0 outcome)) branch next.2 in
    ap (λ (x : BranchDraft). x.when) (sym (ok_is last.2))

made_some : (found : Option CondDraft) (when : Option CondDraft) → option_map Some found ≡ Some when → is_some when ≡ true
made_some None when h = absurd (none_some h)
made_some (Some cond) when h = ap is_some (sym (some_is h))

when_asks : (json : Option Data) (when : Option CondDraft) → when_of json ≡ Some when → is_some when ≡ is_some json
when_asks None when h = ap is_some (sym (some_is h))
when_asks (Some d) when h = made_some (cond_of d) when h

branch_kept : (name : Bytes) (b : ℕ) (parts : BranchParts) (branch : BranchDraft) → draft_of_branch name b parts ≡ Ok branch
    → draft_asks branch ≡ part_asks parts
unfolding draft_of_branch
branch_kept name b parts branch h =
    let first = parted (at (Rule name (When b)) (when_of parts.when))
    (λ (when : Option CondDraft). behind_when name b when parts.guards parts.steps parts.outcome) branch h in
    ap is_some (when_kept name b first.0 parts.guards parts.steps parts.outcome branch first.2)
    ∙ when_asks parts.when first.0 (found_at (Rule name (When b)) (when_of parts.when) first.0 first.1)

branches_kept : (name : Bytes) (b : ℕ) (all : List BranchParts) (branches : List BranchDraft) → branches_from name b all ≡ Ok branches
    → map draft_asks branches ≡ map part_asks all
branches_kept name b [] branches h = ap (map draft_asks) (sym (ok_is h))
branches_kept name b (parts ∷ behind) branches h =
    let first = parted (draft_of_branch name b parts)
    (λ (branch : BranchDraft). branches_from name (suc b) behind >>= λ (others : List BranchDraft). Ok (branch ∷ others)) branches h in
    let more = parted (branches_from name (suc b) behind) (λ (others : List BranchDraft). Ok (first.0 ∷ others)) branches first.2 in
    ap (map draft_asks) (sym (ok_is more.2))
    ∙ (λ j. branch_kept name b parts first.0 first.1 j ∷ branches_kept name (suc b) behind more.0 more.1 j)

-- ---- rules

-- what the branches of a rule are read from
record BranchesRead (version : Version) (name : Bytes) (d : Data) (branches : List BranchDraft) : Type 0 where
  pub all : List BranchParts
  pub by : branches_by version d ≡ Some all
  pub formed : branches_from name 0 all ≡ Ok branches
  pub asks : map draft_asks branches ≡ map part_asks all

branches_by_parts : (version : Version) (name : Bytes) (d : Data) (branches : List BranchDraft) → branches_read version name d ≡ Ok branches
    → BranchesRead version name d branches
branches_by_parts version name d branches h =
    let first = parted (at (Rule name Whole) (branches_by version d)) (λ (parts : List BranchParts). branches_from name 0 parts) branches h in
    record {
      all = first.0;
      by = found_at (Rule name Whole) (branches_by version d) first.0 first.1;
      formed = first.2;
      asks = branches_kept name 0 first.0 branches first.2;
    }

rule_with : Bytes → Bytes × Bytes → List BranchDraft → RuleDraft
rule_with name parts branches = record { name = name; interface = parts.0; method = parts.1; branches = branches }

rule_branches : (version : Version) (name : Bytes) (d : Data) (rule : RuleDraft) → rule_of version name d ≡ Ok rule
    → BranchesRead version name d rule.branches
unfolding rule_of rule_with
rule_branches version name d rule h =
    let first = parted (at (Rule name Whole) (at_last_dot name))
    (λ (parts : Bytes × Bytes). branches_read version name d >>= λ (branches : List BranchDraft). Ok (rule_with name parts branches)) rule h in
    let more = parted (branches_read version name d) (λ (branches : List BranchDraft). Ok (rule_with name first.0 branches)) rule first.2 in
    subst (BranchesRead version name d) (ap (λ (x : RuleDraft). x.branches) (ok_is more.2)) (branches_by_parts version name d more.0 more.1)

one_way_is : (branches : List BranchDraft) → has_one_way branches ≡ ends_alone (map draft_asks branches)
one_way_is [] = refl
one_way_is (branch ∷ []) = refl
one_way_is (branch ∷ (next ∷ behind)) = ap (λ (b : Bool). draft_asks branch && b) (one_way_is (next ∷ behind))

-- there is one branch, without condition
abbrev pub is_plain : List Bool → Bool
is_plain [] = false
is_plain (asks ∷ []) = not asks
is_plain (asks ∷ (next ∷ behind)) = false

abbrev pub draft_is_plain : RuleDraft → Bool
draft_is_plain rule = is_plain (map draft_asks rule.branches)

rule_way : (version : Version) (name : Bytes) (d : Data) (rule : RuleDraft) → rule_of version name d ≡ Ok rule → draft_goes_one_way rule ≡ true
rule_way version name d rule h =
    let read = rule_branches version name d rule h in
    one_way_is rule.branches ∙ ap ends_alone read.asks ∙ branches_ways version d read.all read.by

plain_rule : (name : Bytes) (d : Data) (rule : RuleDraft) → rule_of One name d ≡ Ok rule → draft_is_plain rule ≡ true
plain_rule name d rule h =
    let read = rule_branches One name d rule h in
    ap is_plain (read.asks ∙ branches_of_one d read.all read.by)

none_from : (when : Option CondDraft) → is_some when ≡ false → when ≡ None
none_from None h = refl
none_from (Some cond) h = absurd (cc)

pub reads_its_branch : VersionOneIsItsBranch
reads_its_branch name d rule h =
    let read = rule_branches One name d rule h in
    let sole = sole_branch d read.all read.by in
    let one : branches_from name 0 (sole.parts ∷ []) ≡ Ok rule.branches = ap (branches_from name 0) (sym sole.all_are) ∙ read.formed in
    let first = parted (draft_of_branch name 0 sole.parts)
    (λ (branch : BranchDraft). branches_from name (suc 0) [] >>= λ (others : List BranchDraft). Ok (branch ∷ others)) rule.branches one in
    record {
      parts = sole.parts;
      branch = first.0;
      parts_are = sole.parts_are;
      branch_is = first.1;
      alone = sym (ok_is first.2);
      always = none_from first.0.when (branch_kept name 0 sole.parts first.0 first.1 ∙ sole.none);
    }

module _ (version : Version) (test : RuleDraft → Bool) (so : (name : Bytes) (d : Data) (rule : RuleDraft) → rule_of version name d ≡ Ok rule → test rule ≡ true) where
  each_rule : (members : Members) (rules : List RuleDraft) → rules_in version members ≡ Ok rules → list_all test rules ≡ true
  each_rule no_members rules h = ap (list_all test) (sym (ok_is h))
  each_rule (member name d behind) rules h =
      let first = parted (rule_of version name d)
      (λ (rule : RuleDraft). rules_in version behind >>= λ (others : List RuleDraft). Ok (rule ∷ others)) rules h in
      let more = parted (rules_in version behind) (λ (others : List RuleDraft). Ok (first.0 ∷ others)) rules first.2 in
      ap (list_all test) (sym (ok_is more.2))
      ∙ and_from (test first.0) (list_all test more.0) (so name d first.0 first.1) (each_rule behind more.0 more.1)

-- ---- sheets

sheet_with : Outline → List Bytes → List RegisterDraft → List RuleDraft → SheetDraft
sheet_with outline interfaces registers rules = record { info = outline.info; interfaces = interfaces; registers = registers; rules = rules }

rules_behind : (outline : Outline) (sheet : SheetDraft) → sheet_behind outline ≡ Ok sheet → rules_in outline.sheet outline.contents.rules ≡ Ok sheet.rules
unfolding sheet_with
rules_behind outline sheet h =
    let last : List Bytes → List RegisterDraft → Result SheetDraft DraftFault =
    λ interfaces registers. rules_in outline.sheet outline.contents.rules >>= λ (rules : List RuleDraft). Ok (sheet_with outline interfaces registers rules) in
    let first = parted (each place.Interface as_str 0 outline.contents.interfaces)
    (λ (interfaces : List Bytes). registers_from [] 0 outline.contents.registers >>= last interfaces) sheet h in
    let next = parted (registers_from [] 0 outline.contents.registers) (last first.0) sheet first.2 in
    let end = parted (rules_in outline.sheet outline.contents.rules)
    (λ (rules : List RuleDraft). Ok (sheet_with outline first.0 next.0 rules)) sheet next.2 in
    subst (λ (x : SheetDraft). rules_in outline.sheet outline.contents.rules ≡ Ok x.rules) (ok_is end.2) end.1

-- what a sheet's rules are read from
pub record RulesRead (text : List ℕ) (rules : List RuleDraft) : Type 0 where
  pub outline : Outline
  pub outline_is : outlined text ≡ Ok outline
  pub rules_are : rules_in outline.sheet outline.contents.rules ≡ Ok rules

pub rules_read : (text : List ℕ) (sheet : SheetDraft) → draft_of text ≡ Ok sheet → RulesRead text sheet.rules
unfolding draft_of sheet_of
rules_read text sheet h =
    let json = parted (json_of text) sheet_of sheet h in
    let found = parted (at Top (outline_of json.0)) sheet_behind sheet json.2 in
    record {
      outline = found.0;
      outline_is = ap (λ (o : Result Data DraftFault). o >>= λ (d : Data). at Top (outline_of d)) json.1 ∙ found.1;
      rules_are = rules_behind found.0 sheet found.2;
    }

pub drafts_go_one_way : (text : List ℕ) (sheet : SheetDraft) → draft_of text ≡ Ok sheet → list_all draft_goes_one_way sheet.rules ≡ true
drafts_go_one_way text sheet h =
    let read = rules_read text sheet h in
    each_rule read.outline.sheet draft_goes_one_way (rule_way read.outline.sheet) read.outline.contents.rules sheet.rules read.rules_are

pub drafts_are_plain : (text : List ℕ) (sheet : SheetDraft) (outline : Outline) → draft_of text ≡ Ok sheet → outlined text ≡ Ok outline
    → outline.sheet ≡ One → list_all draft_is_plain sheet.rules ≡ true
drafts_are_plain text sheet outline h is one =
    let read = rules_read text sheet h in
    let same : read.outline ≡ outline = ok_is (sym read.outline_is ∙ is) in
    let first : read.outline.sheet ≡ One = ap (λ (o : Outline). o.sheet) same ∙ one in
    each_rule One draft_is_plain plain_rule read.outline.contents.rules sheet.rules
    (ap (λ (version : Version). rules_in version read.outline.contents.rules) (sym first) ∙ read.rules_are)
