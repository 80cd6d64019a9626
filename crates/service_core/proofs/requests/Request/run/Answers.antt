use Rattle.std.proofs.Common.{◌≡◌, List, Some, sym, ap, ◌∙◌, subst}
use Rattle.idl_tree.specs.Names.{Bytes}
use Rattle.idl_tree.specs.declared.trees.Interface.{Interface}
use Rattle.typed_value.specs.declared.vals.Val.{Val}
use Rattle.sheet_step.specs.Step.{step}
use Rattle.service_core.specs.Runs.{IsTyped}
use Rattle.service_core.proofs.CalledRules.{ok_map, in_both}
use Rattle.service_core.proofs.Running.{home_from, is_there, has_home, can_step, may_come, keeps}
use Rattle.service_core.proofs.requests.Request.run.Goals as goal

pub step-requires : goal.step-requires
step-requires c =
    let sheet = c.args.sheet.now in
    let request = c.args.self.now in
    let rule = c.in-Some.rule.now in
    let home = c.in-Some-home_of.home.now in
    rw (c.as_str-name.ensures, c.tree.ensures.tree) (can_step sheet request c.args.registers.now c.requires.good c.requires.typed rule home
    (sym c.in-Some.ensures) (home_from sheet request.rule rule home c.in-Some.ensures c.in-Some-home_of.ensures))

pub returns-clause-comes : goal.returns-clause-comes
returns-clause-comes c =
    let sheet = c.args.sheet.now in
    let request = c.args.self.now in
    let rule = c.in-Some.rule.now in
    let home = c.in-Some-home_of.home.now in
    let named = c.as_str-name.ensures ∙ ap (λ (i : Interface). i.name) c.tree.ensures.tree in
    ok_map c.step.result _ _ (λ done told.
    may_come sheet request c.args.registers.now c.requires.good c.requires.typed rule home
    (sym c.in-Some.ensures) (home_from sheet request.rule rule home c.in-Some.ensures c.in-Some-home_of.ensures) done c.step.new.registers
    (subst (λ (n : Bytes). step n rule.branches request.parameters c.args.registers.now ≡ Some (done, c.step.new.registers)) named told)) c.step.ensures.ok

pub returns-clause-typed : goal.returns-clause-typed
returns-clause-typed c =
    let sheet = c.args.sheet.now in
    let request = c.args.self.now in
    let rule = c.in-Some.rule.now in
    let home = c.in-Some-home_of.home.now in
    let named = c.as_str-name.ensures ∙ ap (λ (i : Interface). i.name) c.tree.ensures.tree in
    in_both c.step.result _ _ _ (λ done told.
    keeps sheet request c.args.registers.now c.requires.good c.requires.typed rule home
    (sym c.in-Some.ensures) (home_from sheet request.rule rule home c.in-Some.ensures c.in-Some-home_of.ensures) done c.step.new.registers
    (subst (λ (n : Bytes). step n rule.branches request.parameters c.args.registers.now ≡ Some (done, c.step.new.registers)) named told))
    (λ same. subst (λ (rs : List Val). IsTyped (record { sheet = sheet; registers = rs })) (sym same) c.requires.typed) c.step.ensures.ok c.step.ensures.memory
