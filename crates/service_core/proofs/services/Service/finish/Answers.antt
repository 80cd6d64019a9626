use Rattle.std.proofs.Common.{ℕ, sym, ap, ◌∙◌, subst}
use Rattle.session_core.specs.Outcomes.{Fits}
use Rattle.service_core.specs.Comes.{MayCome}
use Rattle.service_core.specs.Outcomes.{outcome_of}
use Rattle.service_core.specs.Renders.{left_of, Renders}
use Rattle.service_core.proofs.CalledRules.{ok_map, rule_called, is_called}
use Rattle.service_core.proofs.Fitting.{done_fits}
use Rattle.service_core.proofs.Ways.{asks}
use Rattle.service_core.proofs.services.Service.finish.Goals as goal

pub unreachable-requires : goal.unreachable-requires
unreachable-requires c =
    is_called c.args.self.now c.sheet.result.now c.args.call.now c.as_str.result.now c.requires.request c.sheet.ensures.sheet c.as_str.ensures
    c.requires.asks c.in-None.ensures

pub render-requires : goal.render-requires
render-requires c =
    let same = rule_called c.args.self.now c.sheet.result.now c.args.call.now c.as_str.result.now c.requires.request c.sheet.ensures.sheet c.as_str.ensures
    c.requires.asks c.in-Some.rule c.in-Some.ensures in
    subst (λ (p : ℕ). MayCome c.args.self.now p c.args.done) (sym same) c.requires.comes

pub returns-clause-outcome : goal.returns-clause-outcome
returns-clause-outcome c =
    ok_map c.render.result _ _ (λ replies is request place.
    is ∙ ap (λ (p : ℕ). outcome_of c.args.self.now p c.args.done)
    (rule_called c.args.self.now c.sheet.result.now c.args.call.now c.as_str.result.now request c.sheet.ensures.sheet c.as_str.ensures
    place c.in-Some.rule c.in-Some.ensures)) c.render.ensures.outcome

pub returns-clause-renders : goal.returns-clause-renders
returns-clause-renders c =
    ok_map c.render.result _ _ (λ replies is request place.
    subst (λ (p : ℕ). Renders c.args.self.now p c.args.done replies)
    (rule_called c.args.self.now c.sheet.result.now c.args.call.now c.as_str.result.now request c.sheet.ensures.sheet c.as_str.ensures
    place c.in-Some.rule c.in-Some.ensures) is) c.render.ensures.renders

pub returns-clause-fits : goal.returns-clause-fits
returns-clause-fits c =
    let sheet = c.args.self.now in
    let request = c.requires.request in
    let same = rule_called sheet c.sheet.result.now c.args.call.now c.as_str.result.now request c.sheet.ensures.sheet c.as_str.ensures
    c.requires.asks c.in-Some.rule c.in-Some.ensures in
    let fits = done_fits sheet c.args.call.now request (asks sheet c.args.call.now request c.requires.asks) c.sheet.ensures.served c.args.done c.requires.comes in
    ok_map c.render.result _ _ (λ replies is. subst (Fits c.args.call.now) (sym (is ∙ ap (λ (p : ℕ). outcome_of sheet p c.args.done) same)) fits)
    c.render.ensures.outcome
