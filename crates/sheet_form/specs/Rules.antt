-- The rules of a sheet, in the byte order of their names: each is formed by types, or told with its name.
use Rattle.std.specs.Prelude.{◌≡◌, true, List, [], ◌∷◌, ◌++◌, Result, Ok, Err}
use Rattle.std.specs.List.{list_all}
use Rattle.idl_tree.specs.Names.{Bytes}
use Rattle.idl_tree.specs.declared.trees.Interface.{Interface}
use Rattle.sheet_draft.specs.declared.drafts.RuleDraft.{RuleDraft}
use Rattle.sheet_draft.specs.declared.places.Place.TheVariants as place
use Rattle.sheet_rules.specs.Rules.{rule_is_typed}
use Rattle.sheet_rules.specs.declared.forms.Register.{Register}
use Rattle.sheet_rules.specs.declared.forms.Rule.{Rule}
use Rattle.rule_form.specs.Rules.{rule_formed}
use Rattle.rule_form.specs.declared.faults.RuleFault.{RuleFault}
use Rattle.rule_form.specs.declared.faults.RuleFault.TheVariants as rule
use Rattle.sheet_form.specs.Answers.{Reading, done, refused, ◌>>=◌}
use Rattle.sheet_form.specs.declared.faults.SheetFault.{SheetFault}
use Rattle.sheet_form.specs.declared.faults.SheetFault.TheVariants.{Float, NoSuchMethod, NoSuchRegister, IllTyped, Memory}

-- the fault of the rule of that name
abbrev pub rule_fault : Bytes → RuleFault → SheetFault
rule_fault name rule.NoSuchMethod = NoSuchMethod name
rule_fault name (rule.NoSuchRegister spot) = NoSuchRegister (place.Rule name spot)
rule_fault name (rule.Float spot) = Float (place.Rule name spot)
rule_fault name (rule.IllTyped spot) = IllTyped (place.Rule name spot)
rule_fault name rule.Memory = Memory

abbrev pub rule_told : Bytes → Result Rule RuleFault → Reading Rule
rule_told name (Ok made) = done made
rule_told name (Err fault) = refused (rule_fault name fault)

abbrev pub rule_at : List Interface → List Register → RuleDraft → Reading Rule
rule_at interfaces registers draft = rule_told draft.name (rule_formed interfaces registers draft)

-- those and the rules that the drafts are formed to
abbrev pub rules_from : List Interface → List Register → List Rule → List RuleDraft → Reading (List Rule)
rules_from interfaces registers before [] = done before
rules_from interfaces registers before (draft ∷ drafts) = do
  made ← rule_at interfaces registers draft
  rules_from interfaces registers (before ++ made ∷ []) drafts

abbrev pub rules_of : List Interface → List Register → List RuleDraft → Reading (List Rule)
rules_of interfaces registers drafts = rules_from interfaces registers [] drafts

-- each rule is typed
abbrev pub AreTyped : List Interface → List Register → List Rule → Type 0
AreTyped interfaces registers rules = list_all (rule_is_typed interfaces registers) rules ≡ true
