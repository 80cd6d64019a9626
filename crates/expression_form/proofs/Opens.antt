-- a fold at each form of expression, one level opened
use Rattle.std.proofs.Common.{◌≡◌, List, map, refl}
use Rattle.typed_value.specs.declared.vals.Val.{Val}
use Rattle.typed_value.specs.declared.vals.Val.TheVariants.{Nothing, outs-Nothing}
use Rattle.typed_value.specs.declared.vals.Val.TheOpen.{Val-F}
use Rattle.typed_value.specs.declared.vals.Val.TheFolds.{fold-Val, fold_out-Val}
use Rattle.sheet_rules.specs.declared.forms.Ref.{Ref}
use Rattle.sheet_rules.specs.declared.forms.Expr.{Expr}
use Rattle.sheet_rules.specs.declared.forms.Expr.TheVariants as expr
use Rattle.sheet_rules.specs.declared.forms.Expr.TheVariants.{outs-From, outs-Const, outs-Struct, outs-Items, outs-Sum, outs-Length, outs-At}
use Rattle.sheet_rules.specs.declared.forms.Expr.TheOpen.{Expr-F}
use Rattle.sheet_rules.specs.declared.forms.Expr.TheFolds.{fold-Expr, fold_out-Expr}

module _ (A : Type 0) (step : Expr-F A → A) where
  pub from_opens : (r : Ref) → fold-Expr A step (expr.From r) ≡ step (Expr-F.From r)
  from_opens r = rw (fold_out-Expr, outs-From) refl

  pub const_opens : (v : Val) → fold-Expr A step (expr.Const v) ≡ step (Expr-F.Const v)
  const_opens v = rw (fold_out-Expr, outs-Const) refl

  pub struct_opens : (xs : List Expr) → fold-Expr A step (expr.Struct xs) ≡ step (Expr-F.Struct (map (fold-Expr A step) xs))
  struct_opens xs = rw (fold_out-Expr, outs-Struct) refl

  pub items_opens : (xs : List Expr) → fold-Expr A step (expr.Items xs) ≡ step (Expr-F.Items (map (fold-Expr A step) xs))
  items_opens xs = rw (fold_out-Expr, outs-Items) refl

  pub sum_opens : (x y : Expr) → fold-Expr A step (expr.Sum x y) ≡ step (Expr-F.Sum (fold-Expr A step x) (fold-Expr A step y))
  sum_opens x y = rw (fold_out-Expr, outs-Sum) refl

  pub length_opens : (r : Ref) → fold-Expr A step (expr.Length r) ≡ step (Expr-F.Length r)
  length_opens r = rw (fold_out-Expr, outs-Length) refl

  pub at_opens : (r : Ref) (x y : Expr) → fold-Expr A step (expr.At r x y) ≡ step (Expr-F.At r (fold-Expr A step x) (fold-Expr A step y))
  at_opens r x y = rw (fold_out-Expr, outs-At) refl

pub nothing_opens : (A : Type 0) (step : Val-F A → A) → fold-Val A step Nothing ≡ step Val-F.Nothing
nothing_opens A step = rw (fold_out-Val, outs-Nothing) refl
