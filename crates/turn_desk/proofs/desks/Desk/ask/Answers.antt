use Rattle.std.proofs.Common.{rules, ◌≡◌, ℕ, [], ◌∷◌, ◌++◌, OnOk, OnErr, sym, ap, ◌∙◌, subst}
use Rattle.turn_desk.specs.Asks.{EndsWith}
use Rattle.turn_desk.specs.Histories.{GoesOn, requests_of}
use Rattle.turn_desk.specs.Passes.{carried}
use Rattle.turn_desk.specs.Turns.{numbers_of}
use Rattle.turn_desk.proofs.Answered.{own_more, own_same}
use Rattle.turn_desk.proofs.Steps.{recalls}
use Rattle.turn_desk.proofs.desks.Desk.ask.Goals as goal

pub returns-clause-entry : goal.returns-clause-entry
returns-clause-entry g c =
    let v = c.pass.inside.seat.me.0 in
    let seen = c.ask_in_turn-reply.new.seat.me.0.seen in
    subst (λ p. OnOk c.ask_in_turn-reply.result (EndsWith p.seen (carried p) (record { pass = p.number; request = c.args.request }) seen)) c.pass.view_is
    (subst (λ (n : ℕ). OnOk c.ask_in_turn-reply.result (EndsWith v.seen (numbers_of v) (record { pass = n; request = c.args.request }) seen)) (sym c.pass.invariant.number_is) c.ask_in_turn-reply.ensures.entry)

pub returns-clause-others : goal.returns-clause-others
returns-clause-others g c =
    subst (λ p. OnErr c.ask_in_turn-reply.result (GoesOn p.seen (carried p) c.ask_in_turn-reply.new.seat.me.0.seen)) c.pass.view_is c.ask_in_turn-reply.ensures.others

pub returns-clause-own : goal.returns-clause-own
returns-clause-own g c =
    let pass = c.args.pass.now in
    let seen = c.ask_in_turn-reply.new.seat.me.0.seen in
    let number = ap (λ m. m.0.number) c.ask_in_turn-reply.ensures.seat ∙ ap (λ p. p.number) c.pass.view_is in
    subst (λ (n : ℕ). OnOk c.ask_in_turn-reply.result (requests_of n seen ≡ requests_of pass.number pass.seen ++ c.args.request ∷ [])) (sym number)
    (own_more (record { pass = pass.number; request = c.args.request }) pass.joined pass.seen seen c.ask_in_turn-reply.result (returns-clause-entry g c))

pub returns-clause-no_own : goal.returns-clause-no_own
returns-clause-no_own g c =
    let pass = c.args.pass.now in
    let seen = c.ask_in_turn-reply.new.seat.me.0.seen in
    let number = ap (λ m. m.0.number) c.ask_in_turn-reply.ensures.seat ∙ ap (λ p. p.number) c.pass.view_is in
    subst (λ (n : ℕ). OnErr c.ask_in_turn-reply.result (requests_of n seen ≡ requests_of pass.number pass.seen)) (sym number)
    (own_same pass.number pass.joined pass.seen seen c.ask_in_turn-reply.result (returns-clause-others g c))

pub load-requires : goal.load-requires
load-requires g c = (search rules, search rules, recalls g.O.Object.good g.O.Object.after g.O.Object.weigh g.L.Ledger.stands_for _ _ _ _ c.pass.invariant.stage)
