-- The rule of a method, and values for its registers.
use Rattle.std.specs.Prelude.{◌≡◌, Bool, true, false, ◌&&◌, List, [], ◌∷◌, Some, slice_get}
use Rattle.idl_tree.specs.Faults.{method_named}
use Rattle.idl_tree.specs.declared.trees.Interface.{Interface}
use Rattle.idl_tree.specs.declared.trees.Body.{Body}
use Rattle.typed_value.specs.declared.vals.Val.{Val}
use Rattle.sheet_rules.specs.Types.{type_in, is_of_typ}
use Rattle.sheet_rules.specs.Rules.{has_one_way, rule_is_typed}
use Rattle.sheet_rules.specs.declared.forms.Register.{Register}
use Rattle.sheet_rules.specs.declared.forms.Rule.{Rule}

-- one value for each register, of the register's type
abbrev pub are_of_types : List Interface → List Register → List Val → Bool
are_of_types interfaces [] [] = true
are_of_types interfaces (register ∷ registers) (v ∷ vs) =
    is_of_typ interfaces (type_in register.scope register.of) v && are_of_types interfaces registers vs
are_of_types interfaces registers vs = false

-- the rule is typed, its last branch alone has no condition, and its method is one of that interface, with those
-- parameters and that reply
pub record IsRuleOf (interfaces : List Interface) (registers : List Register) (rule : Rule) (home : Interface) (input output : Body) : Type 0 where
  pub typed : rule_is_typed interfaces registers rule ≡ true
  pub one_way : has_one_way rule.branches ≡ true
  pub home_is : slice_get interfaces rule.interface ≡ Some home
  pub method_is : method_named rule.method home ≡ Some (input, output)
