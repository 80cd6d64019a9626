use Rattle.std.proofs.Common.{◌≡◌, Some, subst}
use Rattle.sheet_form.specs.declared.sheets.Contents.{Contents}
use Rattle.service_core.specs.Tells.{stepped}
use Rattle.service_core.specs.Comes.{MayCome}
use Rattle.service_core.specs.declared.renderings.Rendering.{Rendering}
use Rattle.service_core.specs.Outcomes.{outcome_of}
use Rattle.service_core.specs.Renders.{left_of, Renders}
use Rattle.service_core.specs.Runs.{Ran}
use Rattle.service_core.proofs.CalledRules.{ok_both, err_map}
use Rattle.service_core.proofs.Unchanged.{unchanged}
use Rattle.service_core.proofs.runs.run.Goals as goal

pub returns-clause-ran : goal.returns-clause-ran
returns-clause-ran c =
    let service = c.args.service.now in
    let before = c.args.registers.now in
    let after = c.run.new.registers in
    let told = subst (λ (s : Contents). stepped (record { sheet = s; registers = before }) c.args.request ≡ Some (c.in_ok-done.done, after))
    c.sheet.ensures.sheet c.in_ok-done.ensures.stepped in
    let comes = subst (λ (s : Contents). MayCome s c.args.request.rule c.in_ok-done.done) c.sheet.ensures.sheet c.in_ok-done.ensures.comes in
    let d = c.in_ok-done.done in
    ok_both c.render.result (λ (replies : Rendering). left_of replies ≡ outcome_of service c.args.request.rule d)
    (λ (replies : Rendering). Renders service c.args.request.rule d replies)
    (λ (replies : Rendering). Ran (record { sheet = service; registers = before }) c.args.request replies after)
    (λ replies outcome renders.
    record {
      done = d;
      step_is = told;
      comes = comes;
      outcome = outcome;
      renders = renders;
    }) c.render.ensures.outcome c.render.ensures.renders

pub returns-clause-memory : goal.returns-clause-memory
returns-clause-memory c =
    let before = c.args.registers.now in
    let after = c.run.new.registers in
    let told = subst (λ (s : Contents). stepped (record { sheet = s; registers = before }) c.args.request ≡ Some (c.in_ok-done.done, after))
    c.sheet.ensures.sheet c.in_ok-done.ensures.stepped in
    err_map c.render.result _ _ (unchanged c.args.service.now c.args.request before after c.requires.good c.in_ok-done.done told) c.render.ensures.memory
