-- Which rule a draft is, and why it is none: the first refusal in order. First its method must be one of the
-- sheet's, and then reach no `float`. Then each branch comes in order, and in it the condition, the guards,
-- the steps and the outcome.
use Rattle.std.specs.Prelude.{ℕ, suc, Bool, false, is_some, not, ◌&&◌, List, [], ◌∷◌, Option, Some, None, option_map, option_and_then, position, slice_get, Result, Ok, Err, if◌then◌else◌}
use Rattle.std.specs.Str.{bytes_eq}
use Rattle.idl_tree.specs.Names.{Bytes}
use Rattle.idl_tree.specs.Faults.{method_named}
use Rattle.idl_tree.specs.declared.trees.Interface.{Interface}
use Rattle.sheet_rules.specs.Settings.{Setting}
use Rattle.sheet_rules.specs.Rules.{method_setting}
use Rattle.sheet_rules.specs.declared.forms.Register.{Register}
use Rattle.sheet_rules.specs.declared.forms.Cond.{Cond}
use Rattle.sheet_rules.specs.declared.forms.Guard.{Guard}
use Rattle.sheet_rules.specs.declared.forms.Action.{Action}
use Rattle.sheet_rules.specs.declared.forms.Ending.{Ending}
use Rattle.sheet_rules.specs.declared.forms.Branch.{Branch}
use Rattle.sheet_rules.specs.declared.forms.Rule.{Rule}
use Rattle.sheet_draft.specs.declared.places.Spot.TheVariants as spot
use Rattle.expression_draft.specs.declared.drafts.CondDraft.{CondDraft}
use Rattle.sheet_draft.specs.declared.drafts.GuardDraft.{GuardDraft}
use Rattle.sheet_draft.specs.declared.drafts.ActionDraft.{ActionDraft}
use Rattle.sheet_draft.specs.declared.drafts.EndingDraft.{EndingDraft}
use Rattle.sheet_draft.specs.declared.drafts.BranchDraft.{BranchDraft}
use Rattle.sheet_draft.specs.declared.drafts.RuleDraft.{RuleDraft}
use Rattle.rule_form.specs.Answers.{◌>>=◌, or_fault, formed_at}
use Rattle.rule_form.specs.Misses.{cond_misses, guard_misses, step_misses, ending_misses}
use Rattle.rule_form.specs.Floats.{method_floats, error_floats}
use Rattle.rule_form.specs.Conditions.{cond_made, guard_made}
use Rattle.rule_form.specs.Steps.{step_made}
use Rattle.rule_form.specs.Outcomes.{outcome_made}
use Rattle.rule_form.specs.declared.faults.RuleFault.{RuleFault}
use Rattle.rule_form.specs.declared.faults.RuleFault.TheVariants.{NoSuchMethod, Float}

-- the condition of the branch of this number, where it has one
abbrev pub when_formed : Setting → ℕ → Option CondDraft → Result (Option Cond) RuleFault
when_formed s b None = Ok None
when_formed s b (Some x) = formed_at (spot.When b) (cond_misses s.registers x) false (option_map Some (cond_made s x))

-- its guard and its step of this number, and its outcome, where this is the first branch's
abbrev pub guard_formed : Setting → ℕ → ℕ → GuardDraft → Result Guard RuleFault
guard_formed s b k x = formed_at (spot.Guard b k) (guard_misses s.registers x) (error_floats s x.error) (guard_made s x)

abbrev pub step_formed : Setting → ℕ → ℕ → ActionDraft → Result Action RuleFault
step_formed s b k x = formed_at (spot.Step b k) (step_misses s.registers x) false (step_made s x)

abbrev pub outcome_formed : Setting → EndingDraft → ℕ → EndingDraft → Result Ending RuleFault
outcome_formed s first b x = formed_at (spot.Outcome b) (ending_misses s.registers x) false (outcome_made s first x)

-- each in order, from this number on
abbrev pub each_formed : {A B : Type 0} → (ℕ → A → Result B RuleFault) → ℕ → List A → Result (List B) RuleFault
each_formed forms k [] = Ok []
each_formed forms k (x ∷ xs) = do
  y ← forms k x
  ys ← each_formed forms (suc k) xs
  Ok (y ∷ ys)

-- the branch of this number
unfoldable pub branch_formed : Setting → EndingDraft → ℕ → BranchDraft → Result Branch RuleFault
branch_formed s first b branch = do
  when ← when_formed s b branch.when
  guards ← each_formed (guard_formed s b) 0 branch.guards
  steps ← each_formed (step_formed s b) 0 branch.steps
  outcome ← outcome_formed s first b branch.outcome
  Ok (record { when = when; guards = guards; steps = steps; outcome = outcome })

abbrev pub branches_formed : Setting → List BranchDraft → Result (List Branch) RuleFault
branches_formed s [] = Ok []
branches_formed s (first ∷ behind) = each_formed (branch_formed s first.outcome) 0 (first ∷ behind)

-- the place of the interface of that name
abbrev pub interface_place : List Interface → Bytes → Option ℕ
interface_place interfaces name = position (λ (interface : Interface). bytes_eq interface.name name) interfaces

-- what the rules of a method are typed by, where the interface at that place has it
abbrev pub setting_at : List Interface → List Register → Bytes → ℕ → Option Setting
setting_at interfaces registers method scope =
    option_map (method_setting interfaces registers scope) (option_and_then (method_named method) (slice_get interfaces scope))

abbrev pub draft_setting : List Interface → List Register → RuleDraft → Option Setting
draft_setting interfaces registers draft =
    option_and_then (setting_at interfaces registers draft.method) (interface_place interfaces draft.interface)

abbrev pub rule_of : RuleDraft → ℕ → List Branch → Rule
rule_of draft scope branches = record { name = draft.name; interface = scope; method = draft.method; branches = branches }

-- a rule of a method that is there
abbrev pub formed_in : RuleDraft → Setting → Result Rule RuleFault
formed_in draft s = if method_floats s then Err (Float spot.Whole)
    else (branches_formed s draft.branches >>= λ branches. Ok (rule_of draft s.scope branches))

-- the rule that a draft is, or why it is none
abbrev pub rule_formed : List Interface → List Register → RuleDraft → Result Rule RuleFault
rule_formed interfaces registers draft = or_fault NoSuchMethod (draft_setting interfaces registers draft) >>= formed_in draft

-- there is a branch, the last has no condition, and every other has one
abbrev pub has_one_way : List BranchDraft → Bool
has_one_way [] = false
has_one_way (branch ∷ []) = not (is_some branch.when)
has_one_way (branch ∷ branches) = is_some branch.when && has_one_way branches
