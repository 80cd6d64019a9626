use Rattle.std.proofs.Common.{◌≡◌, true, subst}
use Rattle.std.specs.List.{list_all}
use Rattle.sheet_form.specs.Kept.{begins_typed}
use Rattle.sheet_form.specs.declared.sheets.Contents.{Contents}
use Rattle.step_laws.proofs.Steps.{begin_of_types}
use Rattle.service_core.proofs.alones.Alone.new.Goals as goal

pub invariant_of-result : goal.invariant_of-result
invariant_of-result c =
    let of = c.sheet.ensures.sheet in
    let typed = subst (λ (sheet : Contents). list_all (begins_typed sheet.interfaces) sheet.registers ≡ true) of c.registers.ensures.typed in
    rw (c.in_ok-start.ensures, c.registers.ensures.registers, of) (begin_of_types c.args.service.now.interfaces c.args.service.now.registers typed)
