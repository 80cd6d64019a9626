-- a fold over a draft at a struct, an array and so on, one level opened
use Rattle.std.proofs.Common.{◌≡◌, ℕ, true, false, List, [], ◌∷◌, map, Some, None, option_and_then, refl, ap, ◌∙◌}
use Rattle.idl_tree.specs.Names.{Bytes}
use Rattle.idl_tree.specs.declared.trees.Field.{Field}
use Rattle.typed_value.specs.Reads.{all_of}
use Rattle.sheet_rules.specs.Types.{Typ, string_typ, struct_fields, without_maybe}
use Rattle.sheet_rules.specs.Settings.{Setting}
use Rattle.sheet_rules.specs.declared.forms.Expr.{Expr}
use Rattle.sheet_rules.specs.declared.forms.Expr.TheVariants as expr
use Rattle.expression_draft.specs.declared.drafts.RefDraft.{RefDraft}
use Rattle.expression_draft.specs.declared.drafts.ExprDraft.{ExprDraft}
use Rattle.expression_draft.specs.declared.drafts.ExprDraft.TheVariants as draft
use Rattle.expression_draft.specs.declared.drafts.ExprDraft.TheVariants.{outs-Struct, outs-Items, outs-At}
use Rattle.expression_draft.specs.declared.drafts.ExprDraft.TheOpen.{ExprDraft-F}
use Rattle.expression_draft.specs.declared.drafts.ExprDraft.TheFolds.{fold-ExprDraft, fold_out-ExprDraft}
use Rattle.expression_form.specs.Expressions.{Maker, make_step, made, makers_of, names_of, are_fields, field_made, struct_made, at_made, with_part}

module _ (A : Type 0) (step : ExprDraft-F A → A) where
  pub struct_opens : (members : List (Bytes × ExprDraft))
      → fold-ExprDraft A step (draft.Struct members)
      ≡ step (ExprDraft-F.Struct (map (λ (member : Bytes × ExprDraft). (member.0, fold-ExprDraft A step member.1)) members))
  struct_opens members = rw (fold_out-ExprDraft, outs-Struct) refl

  pub items_opens : (items : List ExprDraft)
      → fold-ExprDraft A step (draft.Items items) ≡ step (ExprDraft-F.Items (map (fold-ExprDraft A step) items))
  items_opens items = rw (fold_out-ExprDraft, outs-Items) refl

  pub at_opens : (d : RefDraft) (x y : ExprDraft)
      → fold-ExprDraft A step (draft.At d x y) ≡ step (ExprDraft-F.At d (fold-ExprDraft A step x) (fold-ExprDraft A step y))
  at_opens d x y = rw (fold_out-ExprDraft, outs-At) refl

pub struct_is : (s : Setting) (members : List (Bytes × ExprDraft)) (t : Typ)
    → made s (draft.Struct members) t ≡ option_and_then (struct_made t.scope (makers_of s members)) (struct_fields s.interfaces (without_maybe t))
struct_is s members t = ap (λ (maker : Maker). maker t) (struct_opens Maker (make_step s) members)

pub at_is : (s : Setting) (d : RefDraft) (x y : ExprDraft) (t : Typ)
    → made s (draft.At d x y) t ≡ at_made (with_part s d t) (made s x (string_typ s.scope)) (made s y t)
at_is s d x y t = ap (λ (maker : Maker). maker t) (at_opens Maker (make_step s) d x y)

-- the makers of members have the members' names
pub maker_names : (s : Setting) (members : List (Bytes × ExprDraft))
    → map (λ (member : Bytes × Maker). member.0) (makers_of s members) ≡ names_of members
maker_names s [] = refl
maker_names s (member ∷ members) = ap (λ names. member.0 ∷ names) (maker_names s members)

-- the same at the type without a leading `?`
pub struct_by : (s : Setting) (members : List (Bytes × ExprDraft)) (t u : Typ) → u ≡ without_maybe t
    → made s (draft.Struct members) t ≡ option_and_then (struct_made u.scope (makers_of s members)) (struct_fields s.interfaces u)
struct_by s members t u is = struct_is s members t ∙ rw is refl

-- nothing where a member is no field, and else the fields
pub not_fields : (s : Setting) (members : List (Bytes × ExprDraft)) (scope : ℕ) (fields : List Field)
    → false ≡ are_fields fields (names_of members) → struct_made scope (makers_of s members) fields ≡ None
not_fields s members scope fields h = rw (maker_names s members, ← h) refl

pub all_fields : (s : Setting) (members : List (Bytes × ExprDraft)) (scope : ℕ) (fields : List Field) (exprs : List Expr)
    → true ≡ are_fields fields (names_of members) → all_of (map (field_made scope (makers_of s members)) fields) ≡ Some exprs
    → struct_made scope (makers_of s members) fields ≡ Some (expr.Struct exprs)
all_fields s members scope fields exprs h is = rw (maker_names s members, ← h, is) refl
