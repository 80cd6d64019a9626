use Rattle.std.proofs.Common.{◌≡◌, Bool, true, false, not, inr, refl, sym, ◌∙◌}
use Rattle.idl_compat.proofs.Numbering.{on_ok}
use Rattle.idl_compat.proofs.visits.add_visit.Goals as goal

not_true : (b : Bool) → true ≡ not b → b ≡ false
not_true true h = let no : true ≡ false = h in absurd (cc)
not_true false h = refl

pub returns-in-Ok-true : goal.returns-in-Ok-true
returns-in-Ok-true c = on_ok c.push_visit.result
    (λ after. inr (not_true _ (sym c.in-Ok-true.field-0-test ∙ c.in-Ok-true.ensures.added), after, λ n m. c.in-Ok-true.ensures.updates.0 (n, m)))
    c.push_visit.ensures
