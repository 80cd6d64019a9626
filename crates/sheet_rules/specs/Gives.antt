-- Which expressions give a type, by cases on the expression.
use Rattle.std.specs.Prelude.{ℕ, Bool, true, false, ◌&&◌, ◌||◌, is_some, List, [], ◌∷◌}
use Rattle.std.specs.List.{list_all}
use Rattle.idl_tree.specs.declared.trees.Field.{Field}
use Rattle.sheet_rules.specs.Types.{Typ, type_in, int_typ, string_typ, is_int_typ, without_maybe, array_part, map_part, passes, fits_typ, struct_fields, is_of_typ}
use Rattle.sheet_rules.specs.Settings.{Setting, ref_typ}
use Rattle.sheet_rules.specs.declared.forms.Ref.{Ref}
use Rattle.sheet_rules.specs.declared.forms.Expr.{Expr}
use Rattle.sheet_rules.specs.declared.forms.Expr.TheOpen.{Expr-F}
use Rattle.sheet_rules.specs.declared.forms.Expr.TheFolds.{fold-Expr}

-- whether an expression gives each type
abbrev pub Giver : Type 0
Giver = Typ → Bool

-- one for each field, which gives the field's type
abbrev pub each_given : ℕ → List Field → List Giver → Bool
each_given scope [] [] = true
each_given scope (field ∷ fields) (giver ∷ givers) = giver (type_in scope field.of) && each_given scope fields givers
each_given scope fields givers = false

-- each gives the type
abbrev pub all_given : List Giver → Typ → Bool
all_given givers t = list_all (λ giver. giver t) givers

-- a reference whose type fits; one to an array or a map; and one to a map whose values' type fits
abbrev pub refers : Setting → Ref → Typ → Bool
refers s r t = passes (λ u. fits_typ u t) (ref_typ s r)

abbrev pub has_length : Setting → Ref → Bool
has_length s r = passes (λ u. is_some (array_part u) || is_some (map_part u)) (ref_typ s r)

abbrev pub has_part : Setting → Ref → Typ → Bool
has_part s r t = passes (λ u. passes (λ part. fits_typ part t) (map_part u)) (ref_typ s r)

abbrev pub give_step : Setting → Expr-F Giver → Giver
give_step s (Expr-F.From r) t = refers s r t
give_step s (Expr-F.Const v) t = is_of_typ s.interfaces t v
give_step s (Expr-F.Struct givers) t = passes (λ fields. each_given t.scope fields givers) (struct_fields s.interfaces (without_maybe t))
give_step s (Expr-F.Items givers) t = passes (all_given givers) (array_part (without_maybe t))
give_step s (Expr-F.Sum one other) t = is_int_typ (without_maybe t) && one (int_typ s.scope) && other (int_typ s.scope)
give_step s (Expr-F.Length r) t = is_int_typ (without_maybe t) && has_length s r
give_step s (Expr-F.At r key other) t = has_part s r t && key (string_typ s.scope) && other t

abbrev pub gives : Setting → Expr → Typ → Bool
gives s = fold-Expr Giver (give_step s)
