use Rattle.std.proofs.Common.{◌≡◌, ℕ, ◌+◌, suc, Some, None, is_some, refl, sym, ap, ◌∙◌, subst, arith}
use Rattle.session_core.specs.Outcomes.{Nexts}
use Rattle.service_core.specs.Lates.{Held, left_late}
use Rattle.service_core.proofs.Left.{next_left, last_left, copied_some}
use Rattle.service_core.proofs.lates.LateReplies.next.Goals as goal

pub returns-in_default-clause-given : goal.returns-in_default-clause-given
returns-in_default-clause-given c =
    let inside = c.self.inside in
    let held : Held = record { sheet = inside.service.now; rule = inside.rule; values = inside.values; next = inside.next } in
    subst (λ (late : Held). Nexts (left_late late) None (left_late late)) c.self.view_is (last_left held (sym c.in_default.ensures.value))

pub returns-clause-given : goal.returns-clause-given
returns-clause-given c =
    let inside = c.self.inside in
    let held : Held = record { sheet = inside.service.now; rule = inside.rule; values = inside.values; next = inside.next } in
    let follows : suc inside.next ≡ inside.next + 1 = omega arith in
    ap left_late (sym c.self.view_is)
    ∙ next_left held c.in-Some.value.now (record { parameters = c.in_ok-parameters.parameters; continues = c.is_some-continues.result; error = None })
    (inside.next + 1) follows (sym c.in-Some.ensures.value) c.in_ok-parameters.ensures
    (c.is_some-continues.ensures ∙ copied_some c.value_at-2.result ∙ ap is_some c.value_at-2.ensures.value) refl
