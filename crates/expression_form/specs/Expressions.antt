-- Expressions by names, formed by types.
use Rattle.std.specs.Prelude.{ℕ, Bool, false, ◌||◌, List, Option, Some, None, is_some, option_map, option_and_then, map, slice_get, if◌then◌else◌}
use Rattle.std.specs.List.{list_all, list_any}
use Rattle.std.specs.Map.{lookup}
use Rattle.std.specs.Str.{bytes_eq}
use Rattle.serde_json.specs.Data.{Data}
use Rattle.idl_tree.specs.Names.{Bytes}
use Rattle.idl_tree.specs.Form.{begins_with_maybe}
use Rattle.idl_tree.specs.declared.trees.Interface.{Interface}
use Rattle.idl_tree.specs.declared.trees.Field.{Field}
use Rattle.typed_value.specs.Reads.{reader, all_of}
use Rattle.typed_value.specs.declared.vals.Val.{Val}
use Rattle.typed_value.specs.declared.vals.Val.TheVariants as val
use Rattle.sheet_rules.specs.Types.{Typ, type_in, int_typ, string_typ, is_int_typ, without_maybe, array_part, map_part, fits_typ, struct_fields}
use Rattle.sheet_rules.specs.Settings.{Setting}
use Rattle.sheet_rules.specs.declared.forms.Ref.{Ref}
use Rattle.sheet_rules.specs.declared.forms.Expr.{Expr}
use Rattle.sheet_rules.specs.declared.forms.Expr.TheVariants as expr
use Rattle.expression_draft.specs.declared.drafts.RefDraft.{RefDraft}
use Rattle.expression_draft.specs.declared.drafts.ExprDraft.{ExprDraft}
use Rattle.expression_draft.specs.declared.drafts.ExprDraft.TheOpen.{ExprDraft-F}
use Rattle.expression_draft.specs.declared.drafts.ExprDraft.TheFolds.{fold-ExprDraft}
use Rattle.expression_form.specs.References.{ref_formed}

-- what an expression is by each type
abbrev pub Maker : Type 0
Maker = Typ → Option Expr

-- found where the test holds
abbrev pub only_if : {A : Type 0} → Bool → Option A → Option A
only_if test found = if test then found else None

-- a reference whose type fits; one to an array or a map; and one to a map whose values' type fits
abbrev pub fitting : Setting → RefDraft → Typ → Option Ref
fitting s d t = option_and_then (λ (formed : Ref × Typ). only_if (fits_typ formed.1 t) (Some formed.0)) (ref_formed s d)

abbrev pub has_length : Typ → Bool
has_length t = is_some (array_part t) || is_some (map_part t)

abbrev pub with_length : Setting → RefDraft → Option Ref
with_length s d = option_and_then (λ (formed : Ref × Typ).
    only_if (has_length formed.1) (Some formed.0)) (ref_formed s d)

abbrev pub part_fits : Typ → Option Typ → Bool
part_fits t None = false
part_fits t (Some part) = fits_typ part t

abbrev pub with_part : Setting → RefDraft → Typ → Option Ref
with_part s d t = option_and_then (λ (formed : Ref × Typ).
    only_if (part_fits t (map_part formed.1)) (Some formed.0)) (ref_formed s d)

-- JSON by a type
abbrev pub constant : List Interface → Typ → Data → Option Val
constant interfaces t d = option_and_then (λ scope. reader scope d t.prefixes t.core) (slice_get interfaces t.scope)

-- a field's member; without one the field is `Nothing` where its type is `?U`
abbrev pub absent : Field → Option Expr
absent field = only_if (begins_with_maybe field.of.prefixes) (Some (expr.Const val.Nothing))

abbrev pub member_made : ℕ → Field → Option Maker → Option Expr
member_made scope field None = absent field
member_made scope field (Some maker) = maker (type_in scope field.of)

abbrev pub field_made : ℕ → List (Bytes × Maker) → Field → Option Expr
field_made scope makers field = member_made scope field (lookup (bytes_eq field.name) makers)

-- each member is a field
abbrev pub is_field : List Field → Bytes → Bool
is_field fields name = list_any (λ (field : Field). bytes_eq field.name name) fields

abbrev pub are_fields : List Field → List Bytes → Bool
are_fields fields names = list_all (is_field fields) names

abbrev pub struct_made : ℕ → List (Bytes × Maker) → List Field → Option Expr
struct_made scope makers fields = only_if (are_fields fields (map (λ (member : Bytes × Maker). member.0) makers))
    (option_map expr.Struct (all_of (map (field_made scope makers) fields)))

abbrev pub items_made : List Maker → Typ → Option Expr
items_made makers u = option_map expr.Items (all_of (map (λ (maker : Maker). maker u) makers))

abbrev pub both : Option Expr → Option Expr → Option (Expr × Expr)
both one other = option_and_then (λ (x : Expr). option_map (λ (y : Expr). (x, y)) other) one

abbrev pub sum_made : Option Expr → Option Expr → Option Expr
sum_made one other = option_map (λ (parts : Expr × Expr). expr.Sum parts.0 parts.1) (both one other)

abbrev pub at_made : Option Ref → Option Expr → Option Expr → Option Expr
at_made over key other = option_and_then (λ (r : Ref). option_map (λ (parts : Expr × Expr). expr.At r parts.0 parts.1) (both key other)) over

abbrev pub make_step : Setting → ExprDraft-F Maker → Maker
make_step s (ExprDraft-F.From d) t = option_map expr.From (fitting s d t)
make_step s (ExprDraft-F.Const d) t = option_map expr.Const (constant s.interfaces t d)
make_step s (ExprDraft-F.Struct makers) t = option_and_then (struct_made t.scope makers) (struct_fields s.interfaces (without_maybe t))
make_step s (ExprDraft-F.Items makers) t = option_and_then (items_made makers) (array_part (without_maybe t))
make_step s (ExprDraft-F.Sum one other) t = only_if (is_int_typ (without_maybe t))
    (sum_made (one (int_typ s.scope)) (other (int_typ s.scope)))
make_step s (ExprDraft-F.Length d) t = only_if (is_int_typ (without_maybe t)) (option_map expr.Length (with_length s d))
make_step s (ExprDraft-F.At d key other) t = at_made (with_part s d t) (key (string_typ s.scope)) (other t)

-- the expression that a draft is by a type; nothing where it is not typed
abbrev pub made : Setting → ExprDraft → Typ → Option Expr
made s = fold-ExprDraft Maker (make_step s)

-- what the members of a draft are by each type, and their names
abbrev pub makers_of : Setting → List (Bytes × ExprDraft) → List (Bytes × Maker)
makers_of s members = map (λ (member : Bytes × ExprDraft). (member.0, made s member.1)) members

abbrev pub names_of : List (Bytes × ExprDraft) → List Bytes
names_of members = map (λ (member : Bytes × ExprDraft). member.0) members
