use Rattle.std.proofs.Common.{rules, ◌≡◌, ◌+◌, sym, ap, ◌∙◌, subst, refl}
use Rattle.std.specs.Prelude.{IsSome, All, Contains}
use mathlib.Core.Option.{some-injective}
use Rattle.turn_desk.specs.Histories.{state_of, AllGood}
use Rattle.turn_desk.specs.Passes.{carried}
use Rattle.turn_desk.proofs.Dividing.{ends}
use Rattle.turn_desk.proofs.desks.Desk.close.Goals as goal

pub unwrap-object-requires : goal.unwrap-object-requires
unwrap-object-requires g c =
    let all = ap (λ p. p.left + p.asked) c.pass.view_is ∙ c.requires.all in
    let end = ends g.O.Object.good g.O.Object.after g.O.Object.weigh g.L.Ledger.stands_for _ _ _ _ _ c.pass.invariant.stage all c.close_with-closed.ensures.values.2 in
    subst (λ o. IsSome o) (some-injective _ _ (sym end.there ∙ c.take-slot.ensures.value)) refl

pub returns-clause-history : goal.returns-clause-history
returns-clause-history g c =
    let all = ap (λ p. p.left + p.asked) c.pass.view_is ∙ c.requires.all in
    let end = ends g.O.Object.good g.O.Object.after g.O.Object.weigh g.L.Ledger.stands_for _ _ _ _ _ c.pass.invariant.stage all c.close_with-closed.ensures.values.2 in
    let out = some-injective _ _ (sym end.there ∙ c.take-slot.ensures.value) in
    let is : end.home ≡ c.unwrap-object.result = search rules in
    subst (λ p. g.L.Ledger.stands_for c.unwrap-object.result.ledger p.seen) c.pass.view_is (subst (λ b. g.L.Ledger.stands_for b.ledger c.pass.inside.seat.me.0.seen) is end.book.ledger)

pub returns-clause-state : goal.returns-clause-state
returns-clause-state g c =
    let all = ap (λ p. p.left + p.asked) c.pass.view_is ∙ c.requires.all in
    let end = ends g.O.Object.good g.O.Object.after g.O.Object.weigh g.L.Ledger.stands_for _ _ _ _ _ c.pass.invariant.stage all c.close_with-closed.ensures.values.2 in
    let out = some-injective _ _ (sym end.there ∙ c.take-slot.ensures.value) in
    let is : end.home ≡ c.unwrap-object.result = search rules in
    (sym (ap (λ b. b.object) is) ∙ end.book.object) ∙ (ap (λ p. state_of g.O.Object.after c.self.inside.table.shared.key.value p.seen) c.pass.view_is ∙ ap (λ d. state_of g.O.Object.after d.start c.args.pass.seen) c.self.view_is)

pub returns-clause-numbers : goal.returns-clause-numbers
returns-clause-numbers g c =
    let all = ap (λ p. p.left + p.asked) c.pass.view_is ∙ c.requires.all in
    let end = ends g.O.Object.good g.O.Object.after g.O.Object.weigh g.L.Ledger.stands_for _ _ _ _ _ c.pass.invariant.stage all c.close_with-closed.ensures.values.2 in
    subst (λ p. All (λ e. Contains (carried p) e.pass) p.seen) c.pass.view_is end.signed

pub returns-clause-good : goal.returns-clause-good
returns-clause-good g c =
    let all = ap (λ p. p.left + p.asked) c.pass.view_is ∙ c.requires.all in
    let end = ends g.O.Object.good g.O.Object.after g.O.Object.weigh g.L.Ledger.stands_for _ _ _ _ _ c.pass.invariant.stage all c.close_with-closed.ensures.values.2 in
    subst (λ d. AllGood g.O.Object.good d.start c.args.pass.seen) c.self.view_is
    (subst (λ p. AllGood g.O.Object.good c.self.inside.table.shared.key.value p.seen) c.pass.view_is end.good_all)
