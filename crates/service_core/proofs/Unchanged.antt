-- a step that is refused changes nothing
use Rattle.std.proofs.Common.{◌≡◌, List, Some, refl, sym}
use Rattle.typed_value.specs.declared.vals.Val.{Val}
use Rattle.sheet_step.specs.Step.{step}
use Rattle.sheet_step.specs.declared.dones.Done.{Done}
use Rattle.sheet_step.specs.declared.dones.Done.TheVariants as done
use Rattle.sheet_form.specs.declared.sheets.Contents.{Contents}
use Rattle.service_core.specs.declared.requests.Request.{Request}
use Rattle.service_core.specs.Tells.{stepped}
use Rattle.service_core.specs.Renders.{Refuses}
use Rattle.service_core.specs.Runs.{IsGood}
use Rattle.service_core.proofs.Kept.{step_kept}

module _ (sheet : Contents) (request : Request) (registers after : List Val) (g : IsGood sheet request) where
  step_is : (d : Done) → stepped (record { sheet = sheet; registers = registers }) request ≡ Some (d, after)
      → step g.home.name g.rule.branches request.parameters registers ≡ Some (d, after)
  step_is d is = rw (g.rule_is, g.is.home_is) at is

  pub unchanged : (d : Done) → stepped (record { sheet = sheet; registers = registers }) request ≡ Some (d, after) → Refuses d → after ≡ registers
  unchanged (done.Replies vs) is refuses = absurd refuses
  unchanged (done.Upgrade raw v) is refuses = absurd refuses
  unchanged (done.Refused error v) is refuses =
      step_kept g.home.name g.rule.branches request.parameters registers (done.Refused error v) after (step_is (done.Refused error v) is)
  unchanged done.TooDeep is refuses =
      step_kept g.home.name g.rule.branches request.parameters registers done.TooDeep after (step_is done.TooDeep is)
