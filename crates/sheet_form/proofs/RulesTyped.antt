-- rules that are formed are typed, and the faults of others are told
use Rattle.std.proofs.Common.{◌≡◌, ◌≢◌, Bool, true, false, ◌&&◌, List, [], ◌∷◌, ◌++◌, None, slice_get, length, Result, Ok, Err, refl, sym, ap, ◌∙◌, inl, inr}
use Rattle.std.proofs.lemmas.Bool.{and_from, and_parts, cases_lt, lt-ltb}
use Rattle.std.proofs.lemmas.Option.{slice_get_past}
use Rattle.std.proofs.lemmas.List.Folds.{list_all-append}
use Rattle.std.specs.List.{list_all}
use Rattle.idl_tree.specs.Names.{Bytes}
use Rattle.idl_tree.specs.declared.trees.Interface.{Interface}
use Rattle.sheet_draft.specs.declared.drafts.RuleDraft.{RuleDraft}
use Rattle.sheet_rules.specs.Rules.{rule_is_typed}
use Rattle.sheet_rules.specs.declared.forms.Register.{Register}
use Rattle.sheet_rules.specs.declared.forms.Rule.{Rule}
use Rattle.rule_form.specs.Answers.{Refuses}
use Rattle.rule_form.specs.Rules.{rule_formed}
use Rattle.rule_form.specs.declared.faults.RuleFault.{RuleFault}
use Rattle.rule_form.specs.declared.faults.RuleFault.TheVariants as rule
use Rattle.rule_form.specs.Floats.{rule_has_no_float}
use Rattle.rule_form.proofs.Typed.{formed_is_typed, formed_has_one_way, formed_has_no_float}
use Rattle.sheet_form.specs.Kept.{goes_one_way, draft_goes_one_way, AreRules}
use Rattle.sheet_form.specs.RulePlaces.{is_within}
use Rattle.sheet_form.specs.Rules.{rule_fault, rule_told, rules_from, AreTyped}
use Rattle.sheet_form.specs.declared.faults.SheetFault.{SheetFault}
use Rattle.sheet_form.specs.declared.faults.SheetFault.TheVariants.{Memory}

pub told_at : (name : Bytes) (fault : RuleFault) (there : Result Rule RuleFault) (told : SheetFault) → Refuses fault there
    → (told ≢ Memory → told ≡ rule_fault name fault) → told ≢ Memory → rule_told name there (Err told)
told_at name rule.NoSuchMethod there told h is n = rw h (is n)
told_at name (rule.NoSuchRegister spot) there told h is n = rw h (is n)
told_at name (rule.Float spot) there told h is n = rw h (is n)
told_at name (rule.IllTyped spot) there told h is n = rw h (is n)
told_at name rule.Memory there told h is n = absurd (n (is n))

pub made_at : (name : Bytes) (made : Rule) (there : Result Rule RuleFault) → there ≡ Ok made → rule_told name there (Ok made)
made_at name made there h = rw h refl

module _ (interfaces : List Interface) (registers : List Register) where
  -- what is so of each rule that is formed of such a draft
  module _ (holds : Rule → Bool) (given : RuleDraft → Bool)
      (so : (draft : RuleDraft) (made : Rule) → rule_formed interfaces registers draft ≡ Ok made → given draft ≡ true → holds made ≡ true) where
    one_holds : (draft : RuleDraft) (made : Rule) (there : Result Rule RuleFault) → rule_formed interfaces registers draft ≡ there
        → rule_told draft.name there (Ok made) → given draft ≡ true → holds made ≡ true
    one_holds draft made (Ok x) e h is = so draft made (e ∙ ap Ok (sym h)) is
    one_holds draft made (Err fault) e h is = absurd h

    one_more : (rules : List Rule) (made : Rule) → list_all holds rules ≡ true → holds made ≡ true → list_all holds (rules ++ made ∷ []) ≡ true
    one_more rules made h k = list_all-append holds rules (made ∷ []) ∙ (λ j. h j && (k j && true))

    pub all_hold : (before : List Rule) (drafts : List RuleDraft) (rules : List Rule) → list_all holds before ≡ true → list_all given drafts ≡ true
        → rules_from interfaces registers before drafts (Ok rules) → list_all holds rules ≡ true
    all_hold before [] rules h k is = rw is h
    all_hold before (draft ∷ drafts) rules h k (made, told, rest) =
        let both = and_parts (given draft) (list_all given drafts) k in
        all_hold (before ++ made ∷ []) drafts rules
        (one_more before made h (one_holds draft made (rule_formed interfaces registers draft) refl told both.0)) both.1 rest

  one_way : (draft : RuleDraft) (made : Rule) → rule_formed interfaces registers draft ≡ Ok made → draft_goes_one_way draft ≡ true
      → goes_one_way made ≡ true
  one_way draft made formed h = formed_has_one_way interfaces registers draft made formed ∙ h

  pub kept_rules : (drafts : List RuleDraft) (rules : List Rule) → list_all draft_goes_one_way drafts ≡ true
      → rules_from interfaces registers [] drafts (Ok rules) → AreRules interfaces registers rules
  kept_rules drafts rules h is = record {
    typed = all_hold (rule_is_typed interfaces registers) draft_goes_one_way
        (λ draft made formed k. formed_is_typed interfaces registers draft made formed) [] drafts rules refl h is;
    one_way = all_hold goes_one_way draft_goes_one_way one_way [] drafts rules refl h is;
    floatless = all_hold (rule_has_no_float interfaces registers) draft_goes_one_way
        (λ draft made formed k. formed_has_no_float interfaces registers draft made formed) [] drafts rules refl h is;
  }

  typed_within : (rule : Rule) → rule_is_typed interfaces registers rule ≡ true → is_within (length interfaces) rule ≡ true
  typed_within rule h =
      elim (cases_lt rule.interface (length interfaces)) [
        | inl within ↦ lt-ltb rule.interface (length interfaces) within
        | inr past ↦ (let none : slice_get interfaces rule.interface ≡ None = slice_get_past interfaces rule.interface past in
            let no : false ≡ true = rw none at h in absurd (cc))
      ]

  -- each typed rule is of an interface that is there
  pub all_within : (rules : List Rule) → AreTyped interfaces registers rules → list_all (is_within (length interfaces)) rules ≡ true
  all_within [] h = refl
  all_within (rule ∷ rules) h =
      let parts = and_parts (rule_is_typed interfaces registers rule) (list_all (rule_is_typed interfaces registers) rules) h in
      and_from (is_within (length interfaces) rule) (list_all (is_within (length interfaces)) rules)
      (typed_within rule parts.0) (all_within rules parts.1)
