-- Which steps are typed.
use Rattle.std.specs.Prelude.{ℕ, Bool, ◌&&◌, is_some, option_and_then}
use Rattle.sheet_rules.specs.Types.{array_part, map_part, passes}
use Rattle.sheet_rules.specs.Settings.{Setting, register_typ}
use Rattle.sheet_rules.specs.Gives.{gives}
use Rattle.sheet_rules.specs.Conditions.{gives_string}
use Rattle.sheet_rules.specs.declared.forms.Expr.{Expr}
use Rattle.sheet_rules.specs.declared.forms.Action.{Action}
use Rattle.sheet_rules.specs.declared.forms.Action.TheVariants as action

-- the register is of the type; an array whose items are; a map whose values are; a map
abbrev pub is_set : Setting → ℕ → Expr → Bool
is_set s place expr = passes (gives s expr) (register_typ s.registers place)

abbrev pub is_pushed : Setting → ℕ → Expr → Bool
is_pushed s place expr = passes (gives s expr) (option_and_then array_part (register_typ s.registers place))

abbrev pub is_put : Setting → ℕ → Expr → Bool
is_put s place expr = passes (gives s expr) (option_and_then map_part (register_typ s.registers place))

abbrev pub is_keyed : Setting → ℕ → Bool
is_keyed s place = is_some (option_and_then map_part (register_typ s.registers place))

-- a step, by the type of its register
abbrev pub step_is_typed : Setting → Action → Bool
step_is_typed s (action.Set place expr) = is_set s place expr
step_is_typed s (action.Push place expr) = is_pushed s place expr
step_is_typed s (action.Put place key expr) = gives_string s key && is_put s place expr
step_is_typed s (action.Drop place key) = gives_string s key && is_keyed s place
