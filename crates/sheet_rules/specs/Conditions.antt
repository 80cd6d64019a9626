-- Which conditions and guards are typed.
use Rattle.std.specs.Prelude.{Bool, ◌&&◌, is_some, option_and_then, slice_get}
use Rattle.idl_tree.specs.Faults.{error_named}
use Rattle.idl_tree.specs.Names.{Bytes}
use Rattle.sheet_rules.specs.Types.{body_typ, int_typ, string_typ, map_part, maybe_part, passes}
use Rattle.sheet_rules.specs.Settings.{Setting, ref_typ}
use Rattle.sheet_rules.specs.Gives.{gives}
use Rattle.sheet_rules.specs.declared.forms.Expr.{Expr}
use Rattle.sheet_rules.specs.declared.forms.Ref.{Ref}
use Rattle.sheet_rules.specs.declared.forms.Guard.{Guard}
use Rattle.sheet_rules.specs.declared.forms.Cond.{Cond}
use Rattle.sheet_rules.specs.declared.forms.Cond.TheOpen.{Cond-F}
use Rattle.sheet_rules.specs.declared.forms.Cond.TheFolds.{fold-Cond}

-- an expression gives the key of a map, and a number
abbrev pub gives_string : Setting → Expr → Bool
gives_string s expr = gives s expr (string_typ s.scope)

abbrev pub gives_int : Setting → Expr → Bool
gives_int s expr = gives s expr (int_typ s.scope)

-- the expression gives the type of what is referred to; that type is `?U`; it is `[string]U`
abbrev pub is_given : Setting → Ref → Expr → Bool
is_given s r expr = passes (gives s expr) (ref_typ s r)

abbrev pub is_maybe : Setting → Ref → Bool
is_maybe s r = passes (λ t. is_some (maybe_part t)) (ref_typ s r)

abbrev pub is_map : Setting → Ref → Bool
is_map s r = passes (λ t. is_some (map_part t)) (ref_typ s r)

abbrev pub cond_step : Setting → Cond-F Bool → Bool
cond_step s (Cond-F.Equal r expr) = is_given s r expr
cond_step s (Cond-F.Less one other) = gives_int s one && gives_int s other
cond_step s (Cond-F.Present r) = is_maybe s r
cond_step s (Cond-F.Has r key) = is_map s r && gives_string s key
cond_step s (Cond-F.Not cond) = cond

abbrev pub cond_is_typed : Setting → Cond → Bool
cond_is_typed s = fold-Cond Bool (cond_step s)

-- the error is one of the method's interface, and the expression gives its struct
abbrev pub gives_error : Setting → Bytes → Expr → Bool
gives_error s error expr = passes (λ body. gives s expr (body_typ s.scope body))
    (option_and_then (error_named error) (slice_get s.interfaces s.scope))

abbrev pub guard_is_typed : Setting → Guard → Bool
guard_is_typed s guard = cond_is_typed s guard.need && gives_error s guard.error guard.with
