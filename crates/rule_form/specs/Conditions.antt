-- Conditions and guards by names, formed by types.
use Rattle.std.specs.Prelude.{is_some, Option, Some, option_map, option_and_then, slice_get}
use Rattle.idl_tree.specs.Names.{Bytes}
use Rattle.idl_tree.specs.Faults.{error_named}
use Rattle.sheet_rules.specs.Types.{Typ, body_typ, int_typ, string_typ, map_part, maybe_part}
use Rattle.sheet_rules.specs.Settings.{Setting}
use Rattle.sheet_rules.specs.declared.forms.Ref.{Ref}
use Rattle.sheet_rules.specs.declared.forms.Expr.{Expr}
use Rattle.sheet_rules.specs.declared.forms.Guard.{Guard}
use Rattle.sheet_rules.specs.declared.forms.Cond.{Cond}
use Rattle.sheet_rules.specs.declared.forms.Cond.TheVariants as cond
use Rattle.expression_draft.specs.declared.drafts.RefDraft.{RefDraft}
use Rattle.expression_draft.specs.declared.drafts.ExprDraft.{ExprDraft}
use Rattle.sheet_draft.specs.declared.drafts.GuardDraft.{GuardDraft}
use Rattle.expression_draft.specs.declared.drafts.CondDraft.{CondDraft}
use Rattle.expression_draft.specs.declared.drafts.CondDraft.TheOpen.{CondDraft-F}
use Rattle.expression_draft.specs.declared.drafts.CondDraft.TheFolds.{fold-CondDraft}
use Rattle.expression_form.specs.References.{ref_formed}
use Rattle.expression_form.specs.Expressions.{made, only_if}

-- two parts, where both are formed
abbrev pub joined : {A B C : Type 0} → (A → B → C) → Option A → Option B → Option C
joined join one other = option_and_then (λ x. option_map (join x) other) one

-- a reference, with what is formed by its type
abbrev pub with_typ : {A : Type 0} → Option (Ref × Typ) → (Ref → Typ → Option A) → Option A
with_typ formed make = option_and_then (λ (found : Ref × Typ). make found.0 found.1) formed

-- the expression gives the type of what is referred to
abbrev pub equal_made : Setting → RefDraft → ExprDraft → Option Cond
equal_made s d x = with_typ (ref_formed s d) (λ r t. option_map (cond.Equal r) (made s x t))

-- both are numbers
abbrev pub less_made : Setting → ExprDraft → ExprDraft → Option Cond
less_made s x y = joined cond.Less (made s x (int_typ s.scope)) (made s y (int_typ s.scope))

-- what is referred to is of a type `?U`
abbrev pub present_made : Setting → RefDraft → Option Cond
present_made s d = with_typ (ref_formed s d) (λ r t. only_if (is_some (maybe_part t)) (Some (cond.Present r)))

-- what is referred to is a map, and the key a string
abbrev pub has_made : Setting → RefDraft → ExprDraft → Option Cond
has_made s d key = with_typ (ref_formed s d) (λ r t.
    only_if (is_some (map_part t)) (option_map (cond.Has r) (made s key (string_typ s.scope))))

abbrev pub cond_step : Setting → CondDraft-F (Option Cond) → Option Cond
cond_step s (CondDraft-F.Equal d x) = equal_made s d x
cond_step s (CondDraft-F.Less x y) = less_made s x y
cond_step s (CondDraft-F.Present d) = present_made s d
cond_step s (CondDraft-F.Has d key) = has_made s d key
cond_step s (CondDraft-F.Not inner) = option_map cond.Not inner

-- the condition that a draft is; nothing where it is not typed
abbrev pub cond_made : Setting → CondDraft → Option Cond
cond_made s = fold-CondDraft (Option Cond) (cond_step s)

-- the expression gives the parameters of an error of the method's interface
abbrev pub error_made : Setting → Bytes → ExprDraft → Option Expr
error_made s error x = option_and_then (λ body. made s x (body_typ s.scope body))
    (option_and_then (error_named error) (slice_get s.interfaces s.scope))

abbrev pub guard_of : Bytes → Cond → Expr → Guard
guard_of error need with = record { need = need; error = error; with = with }

abbrev pub guard_made : Setting → GuardDraft → Option Guard
guard_made s guard = joined (guard_of guard.error) (cond_made s guard.need) (error_made s guard.error guard.with)
