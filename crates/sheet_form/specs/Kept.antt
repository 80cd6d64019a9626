-- What is so of every sheet. Each register begins with a value of its type, which is of an interface of the
-- sheet and does not reach `float`. Each rule is typed without `float`, and its last branch alone has no
-- condition.
use Rattle.std.specs.Prelude.{◌≡◌, Bool, true, nat_le, List, map, Some, slice_get}
use Rattle.std.specs.List.{list_all, AllByRecursion}
use Rattle.idl_tree.specs.Floats.{TypeReaches}
use Rattle.idl_tree.specs.declared.trees.Interface.{Interface}
use Rattle.typed_value.specs.Sizes.{levels_of}
use Rattle.typed_value.specs.declared.vals.Val.{Val}
use Rattle.sheet_rules.specs.Types.{type_in, is_of_typ}
use Rattle.sheet_rules.specs.Rules.{has_one_way}
use Rattle.sheet_rules.specs.declared.forms.Register.{Register}
use Rattle.sheet_rules.specs.declared.forms.Rule.{Rule}
use Rattle.sheet_draft.specs.declared.drafts.RuleDraft.{RuleDraft}
use Rattle.rule_form.specs.Floats.{rule_has_no_float}
use Rattle.rule_form.specs.Rules as draft
use Rattle.sheet_form.specs.Rules.{AreTyped}

-- the values that registers begin with
abbrev pub initials_of : List Register → List Val
initials_of registers = map (λ (register : Register). register.initial) registers

-- a register's scope is an interface of the sheet, and its first value is of its type there
abbrev pub begins_typed : List Interface → Register → Bool
begins_typed interfaces register = is_of_typ interfaces (type_in register.scope register.of) register.initial

-- a value has at most 120 levels
abbrev pub is_shallow : Val → Bool
is_shallow value = nat_le (levels_of value) 120

-- a register's type does not reach `float`
abbrev pub IsFloatless : List Interface → Register → Type 0
IsFloatless interfaces register = (scope : Interface) → slice_get interfaces register.scope ≡ Some scope
    → TypeReaches scope register.of → ⊥

-- the last branch alone of a rule has no condition, and of a rule by names
abbrev pub goes_one_way : Rule → Bool
goes_one_way rule = has_one_way rule.branches

abbrev pub draft_goes_one_way : RuleDraft → Bool
draft_goes_one_way rule = draft.has_one_way rule.branches

-- what is so of the registers of a sheet
pub record AreRegisters (interfaces : List Interface) (registers : List Register) : Type 0 where
  pub typed : list_all (begins_typed interfaces) registers ≡ true
  pub within : list_all is_shallow (initials_of registers) ≡ true
  pub floatless : AllByRecursion (IsFloatless interfaces) registers

-- what is so of the rules of a sheet
pub record AreRules (interfaces : List Interface) (registers : List Register) (rules : List Rule) : Type 0 where
  pub typed : AreTyped interfaces registers rules
  pub one_way : list_all goes_one_way rules ≡ true
  pub floatless : list_all (rule_has_no_float interfaces registers) rules ≡ true
