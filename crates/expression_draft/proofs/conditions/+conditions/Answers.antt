use Rattle.std.proofs.Common.{refl, rules}
use Rattle.expression_draft.proofs.Opened.{cond_is, not_is}
use Rattle.expression_draft.proofs.conditions.+conditions.Goals as goal

pub read_cond-returns-in-Some-cond_named : goal.read_cond-returns-in-Some-cond_named
read_cond-returns-in-Some-cond_named t c =
    rw (cond_is, ← c.in-Some.ensures, ← c.as_str.ensures.value, ← c.cond_named.ensures, c.in-Some-cond_named.is) c.cond_by.ensures

pub read_cond-returns-in-Some : goal.read_cond-returns-in-Some
read_cond-returns-in-Some t c =
    rw (c.unfit.ensures, cond_is, ← c.in-Some.ensures, ← c.as_str.ensures.value, ← c.cond_named.ensures, c.in-None-cond_named.is) refl

pub read_not-returns-in_err-inner : goal.read_not-returns-in_err-inner
read_not-returns-in_err-inner t c = rw not_is (search rules)

pub read_not-returns : goal.read_not-returns
read_not-returns t c = rw (not_is, c.in_ok-inner.ensures, c.in_ok-new.ensures) refl
