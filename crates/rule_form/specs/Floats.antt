-- Which bodies reach `float`, told by a test. A name that reaches it does so in at most as many steps as the
-- interface has members, so that the test is that of finitely many steps.
use Rattle.std.specs.Prelude.{Bool, ◌||◌, ◌&&◌, not, List, length, option_and_then, slice_get}
use Rattle.std.specs.List.{list_all}
use Rattle.idl_tree.specs.Names.{Bytes}
use Rattle.idl_tree.specs.Faults.{error_named}
use Rattle.idl_tree.specs.Floats.{body_reaches, name_reaches}
use Rattle.idl_tree.specs.declared.trees.Interface.{Interface}
use Rattle.idl_tree.specs.declared.trees.Body.{Body}
use Rattle.sheet_rules.specs.Types.{passes}
use Rattle.sheet_rules.specs.Settings.{Setting}
use Rattle.sheet_rules.specs.Rules.{rule_setting}
use Rattle.sheet_rules.specs.declared.forms.Register.{Register}
use Rattle.sheet_rules.specs.declared.forms.Guard.{Guard}
use Rattle.sheet_rules.specs.declared.forms.Branch.{Branch}
use Rattle.sheet_rules.specs.declared.forms.Rule.{Rule}

abbrev pub reaches_float : Interface → Body → Bool
reaches_float scope body = body_reaches (name_reaches scope (length scope.members)) body

-- a body of the method's interface
abbrev pub in_scope : Setting → Body → Bool
in_scope s body = passes (λ scope. reaches_float scope body) (slice_get s.interfaces s.scope)

-- the method's parameters or its reply do
abbrev pub method_floats : Setting → Bool
method_floats s = in_scope s s.input || in_scope s s.output

-- the parameters of an error of the method's interface do
abbrev pub error_floats : Setting → Bytes → Bool
error_floats s error = passes (in_scope s) (option_and_then (error_named error) (slice_get s.interfaces s.scope))

-- the error of a guard does not, nor those of a branch
abbrev pub guard_has_no_float : Setting → Guard → Bool
guard_has_no_float s guard = not (error_floats s guard.error)

abbrev pub branch_has_no_float : Setting → Branch → Bool
branch_has_no_float s branch = list_all (guard_has_no_float s) branch.guards

-- a rule's method is there and does not, nor do the errors that the rule tells
abbrev pub rule_has_no_float : List Interface → List Register → Rule → Bool
rule_has_no_float interfaces registers rule =
    passes (λ s. not (method_floats s) && list_all (branch_has_no_float s) rule.branches) (rule_setting interfaces registers rule)
