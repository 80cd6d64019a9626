-- Which branches and rules are typed.
use Rattle.std.specs.Prelude.{ℕ, Bool, true, false, ◌&&◌, is_some, not, List, [], ◌∷◌, Option, Some, None, option_and_then, option_map, slice_get}
use Rattle.std.specs.List.{list_all}
use Rattle.idl_tree.specs.Faults.{method_named}
use Rattle.idl_tree.specs.declared.trees.Interface.{Interface}
use Rattle.idl_tree.specs.declared.trees.Body.{Body}
use Rattle.sheet_rules.specs.Types.{passes}
use Rattle.sheet_rules.specs.Settings.{Setting}
use Rattle.sheet_rules.specs.Conditions.{cond_is_typed, guard_is_typed}
use Rattle.sheet_rules.specs.Steps.{step_is_typed}
use Rattle.sheet_rules.specs.Outcomes.{ending_is_typed, same_kind}
use Rattle.sheet_rules.specs.declared.forms.Register.{Register}
use Rattle.sheet_rules.specs.declared.forms.Branch.{Branch}
use Rattle.sheet_rules.specs.declared.forms.Rule.{Rule}
use Rattle.sheet_rules.specs.declared.forms.Cond.{Cond}

abbrev pub when_is_typed : Setting → Option Cond → Bool
when_is_typed s None = true
when_is_typed s (Some cond) = cond_is_typed s cond

abbrev pub branch_is_typed : Setting → Branch → Bool
branch_is_typed s branch = when_is_typed s branch.when && list_all (guard_is_typed s) branch.guards
    && list_all (step_is_typed s) branch.steps && ending_is_typed s branch.outcome

-- there is a branch, the last has no condition, and every other has one
abbrev pub has_one_way : List Branch → Bool
has_one_way [] = false
has_one_way (branch ∷ []) = not (is_some branch.when)
has_one_way (branch ∷ branches) = is_some branch.when && has_one_way branches

-- all branches are of the kind of the first
abbrev pub is_of_kind : Branch → Branch → Bool
is_of_kind first branch = same_kind first.outcome branch.outcome

abbrev pub one_kind : List Branch → Bool
one_kind [] = true
one_kind (first ∷ branches) = list_all (is_of_kind first) branches

-- what a rule's method is typed by
abbrev pub method_setting : List Interface → List Register → ℕ → Body × Body → Setting
method_setting interfaces registers scope bodies = record {
  interfaces = interfaces;
  registers = registers;
  scope = scope;
  input = bodies.0;
  output = bodies.1;
  item = None;
}

abbrev pub rule_setting : List Interface → List Register → Rule → Option Setting
rule_setting interfaces registers rule = option_map (method_setting interfaces registers rule.interface)
    (option_and_then (method_named rule.method) (slice_get interfaces rule.interface))

-- the method is there, each branch is typed, and all are of one kind
abbrev pub rule_is_typed : List Interface → List Register → Rule → Bool
rule_is_typed interfaces registers rule =
    passes (λ s. list_all (branch_is_typed s) rule.branches && one_kind rule.branches) (rule_setting interfaces registers rule)
