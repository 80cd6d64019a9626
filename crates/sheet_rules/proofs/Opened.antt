-- a fold at a struct and at an array, one level opened
use Rattle.std.proofs.Common.{◌≡◌, List, map, refl}
use Rattle.sheet_rules.specs.declared.forms.Expr.{Expr}
use Rattle.sheet_rules.specs.declared.forms.Expr.TheVariants.{Struct, Items, outs-Struct, outs-Items}
use Rattle.sheet_rules.specs.declared.forms.Expr.TheOpen.{Expr-F}
use Rattle.sheet_rules.specs.declared.forms.Expr.TheFolds.{fold-Expr, fold_out-Expr}

module _ (A : Type 0) (step : Expr-F A → A) where
  pub struct_opens : (exprs : List Expr) → fold-Expr A step (Struct exprs) ≡ step (Expr-F.Struct (map (fold-Expr A step) exprs))
  struct_opens exprs = rw (fold_out-Expr, outs-Struct) refl

  pub items_opens : (exprs : List Expr) → fold-Expr A step (Items exprs) ≡ step (Expr-F.Items (map (fold-Expr A step) exprs))
  items_opens exprs = rw (fold_out-Expr, outs-Items) refl
