use Rattle.std.proofs.Common.{◌≡◌, sym, ◌∙◌, subst}
use Rattle.call_form.specs.declared.Outcome.{Outcome}
use Rattle.session_core.specs.Tells.{tells_by}
use Rattle.service_core.specs.Renders.{left_of}
use Rattle.service_core.specs.States.{State}
use Rattle.service_core.specs.Tells.{tell_of}
use Rattle.service_core.proofs.CalledRules.{ok_map}
use Rattle.service_core.proofs.Answering.{answered_told, ran_told, ran_fits}
use Rattle.service_core.proofs.alones.AloneAnswerer.answer.Goals as goal

pub returns-in-Answered-clause-told : goal.returns-in-Answered-clause-told
returns-in-Answered-clause-told c =
    let call = c.args.call.now in
    let state : State = record { sheet = c.self.inside.service.now; registers = c.self.inside.registers } in
    let is = sym c.in-Answered.is ∙ c.in_ok-outcome.ensures.placed in
    subst (λ (s : State). tells_by tell_of s call c.new.result s) c.self.view_is
    (subst (λ (o : Outcome). tells_by tell_of state call o state) (sym c.new.ensures) (answered_told state call c.in-Answered.outcome is))

pub returns-in-Ask-clause-told : goal.returns-in-Ask-clause-told
returns-in-Ask-clause-told c =
    let call = c.args.call.now in
    let state : State = record { sheet = c.self.inside.service.now; registers = c.self.inside.registers } in
    let after : State = record { sheet = c.self.inside.service.now; registers = c.run.new.registers } in
    let is = sym c.in-Ask.is ∙ c.in_ok-outcome.ensures.placed in
    ok_map c.run.result _ _ (λ replies ran.
    subst (λ (s : State). tells_by tell_of s call (left_of replies) after) c.self.view_is
    (ran_told state call c.in-Ask.request replies c.run.new.registers is ran)) c.run.ensures.ran

pub returns-in-Ask-clause-fits : goal.returns-in-Ask-clause-fits
returns-in-Ask-clause-fits c =
    let state : State = record { sheet = c.self.inside.service.now; registers = c.self.inside.registers } in
    let is = sym c.in-Ask.is ∙ c.in_ok-outcome.ensures.placed in
    ok_map c.run.result _ _ (λ replies ran.
    ran_fits state c.args.call.now c.in-Ask.request replies c.run.new.registers c.sheet-sheet.ensures.served is ran) c.run.ensures.ran
