use Rattle.std.proofs.Common.{◌≡◌, List, Some, true, false, option_map, sym, ap, ◌∙◌}
use Rattle.idl_tree.specs.Names.{Bytes}
use Rattle.typed_value.specs.declared.vals.Val.{Val}
use Rattle.sheet_step.specs.Levels.{is_within}
use Rattle.sheet_step.specs.Registers.{seen}
use Rattle.sheet_step.specs.Step.{leveled, qualified}
use Rattle.sheet_step.specs.declared.dones.Done.{Done}
use Rattle.sheet_step.specs.declared.dones.Done.TheVariants as outcome
use Rattle.sheet_step.proofs.Leveled.{within_is, deep_is, refusal_is}
use Rattle.sheet_step.proofs.steps.refuse.Goals as goal

abbrev told : Bytes → Val → List Val → Done × List Val
told name v rs = (outcome.Refused name v, rs)

pub returns-then-not-is_within : goal.returns-then-not-is_within
returns-then-not-is_within c =
    let rs = c.args.registers.now in
    let guard = c.args.guard.now in
    let interface = c.args.interface.now in
    let v = c.in_ok-parameters.parameters in
    let h = rw c.seen.ensures at c.in_ok-parameters.ensures in
    let k : is_within v ≡ false = cc in
    ap (option_map (λ (d : Done). leveled rs (d, rs))) (refusal_is interface guard (seen c.args.parameters.now rs) v h)
    ∙ ap Some (deep_is rs rs (outcome.Refused (qualified interface guard.error) v) c.requires.within k)

pub returns-in-Ok : goal.returns-in-Ok
returns-in-Ok c =
    let rs = c.args.registers.now in
    let guard = c.args.guard.now in
    let interface = c.args.interface.now in
    let v = c.in_ok-parameters.parameters in
    let h = rw c.seen.ensures at c.in_ok-parameters.ensures in
    let k : is_within v ≡ true = cc in
    ap (option_map (λ (d : Done). leveled rs (d, rs))) (refusal_is interface guard (seen c.args.parameters.now rs) v h)
    ∙ ap Some (within_is rs rs (outcome.Refused (qualified interface guard.error) v) c.requires.within k
    ∙ sym (ap (λ (name : Bytes). told name v rs) (c.in-Ok.ensures ∙ ap (qualified interface) c.as_str.ensures)))
