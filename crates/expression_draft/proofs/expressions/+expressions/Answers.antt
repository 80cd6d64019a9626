use Rattle.std.proofs.Common.{refl, rules}
use Rattle.expression_draft.proofs.Opened.{expr_is, sum_is, at_is}
use Rattle.expression_draft.proofs.expressions.+expressions.Goals as goal

pub read_at-returns-in-Some : goal.read_at-returns-in-Some
read_at-returns-in-Some t c = rw (at_is, ← c.in-Some.ensures) c.at_in.ensures

pub read_expr-returns-in-Some-expr_named : goal.read_expr-returns-in-Some-expr_named
read_expr-returns-in-Some-expr_named t c =
    rw (expr_is, ← c.in-Some.ensures, ← c.as_str.ensures.value, ← c.expr_named.ensures, c.in-Some-expr_named.is) c.expr_by.ensures

pub read_expr-returns-in-Some : goal.read_expr-returns-in-Some
read_expr-returns-in-Some t c =
    rw (c.unfit.ensures, expr_is, ← c.in-Some.ensures, ← c.as_str.ensures.value, ← c.expr_named.ensures, c.in-None-expr_named.is) refl

pub read_sum-returns-in_err-one : goal.read_sum-returns-in_err-one
read_sum-returns-in_err-one t c = rw sum_is (search rules)

pub read_sum-returns : goal.read_sum-returns
read_sum-returns t c = rw (sum_is, c.in_ok-one.ensures, c.in_ok-sum.ensures) refl
