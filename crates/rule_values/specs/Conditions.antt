-- Which conditions hold, by cases on the condition.
use Rattle.std.specs.Prelude.{int_lt, Bool, true, false, not, ◌&&◌, Option, Some, None, option_map, is_some, if◌then◌else◌}
use Rattle.typed_value.specs.Sizes.{is_whole}
use Rattle.typed_value.specs.declared.vals.Val.{Val, out-Val}
use Rattle.typed_value.specs.declared.vals.Val.TheOpen.{Val-F}
use Rattle.sheet_rules.specs.declared.forms.Ref.{Ref}
use Rattle.sheet_rules.specs.declared.forms.Expr.{Expr}
use Rattle.sheet_rules.specs.declared.forms.Cond.{Cond}
use Rattle.sheet_rules.specs.declared.forms.Cond.TheOpen.{Cond-F}
use Rattle.sheet_rules.specs.declared.forms.Cond.TheFolds.{fold-Cond}
use Rattle.rule_values.specs.Parts.{int_of}
use Rattle.rule_values.specs.Equal.{same_val}
use Rattle.rule_values.specs.Meanings.{Env, ◌>>=◌, found, meaning, looked_up}

-- whether a condition holds, where what it refers to is there and of the kind that is asked for
abbrev pub Truth : Type 0
Truth = Env → Option Bool

-- two values are compared where their numbers are whole
abbrev pub compared : Val → Val → Option Bool
compared one other = if is_whole one && is_whole other then Some (same_val one other) else None

abbrev pub is_there_part : Val-F Val → Bool
is_there_part Val-F.Nothing = false
is_there_part x = true

abbrev pub is_there : Val → Bool
is_there v = is_there_part (out-Val v)

abbrev pub equal_truth : Ref → Expr → Truth
equal_truth r expr e = do
  one ← found e r
  other ← meaning expr e
  compared one other

abbrev pub less_truth : Expr → Expr → Truth
less_truth one other e = do
  x ← meaning one e >>= int_of
  y ← meaning other e >>= int_of
  Some (int_lt x y)

abbrev pub has_truth : Ref → Expr → Truth
has_truth r key e = do
  k ← meaning key e
  there ← looked_up e r k
  Some (is_some there)

abbrev pub truth_step : Cond-F Truth → Truth
truth_step (Cond-F.Equal r expr) e = equal_truth r expr e
truth_step (Cond-F.Less one other) e = less_truth one other e
truth_step (Cond-F.Present r) e = option_map is_there (found e r)
truth_step (Cond-F.Has r key) e = has_truth r key e
truth_step (Cond-F.Not cond) e = option_map not (cond e)

abbrev pub truth : Cond → Truth
truth = fold-Cond Truth truth_step
