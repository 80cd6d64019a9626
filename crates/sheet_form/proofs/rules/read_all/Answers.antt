use Rattle.std.proofs.Common.{[], ◌∷◌, ◌++◌, Err}
use Rattle.sheet_rules.specs.declared.forms.Rule.{Rule}
use Rattle.sheet_form.specs.Rules.{rule_at, rules_from}
use Rattle.sheet_form.proofs.Passing.{passes, follows}
use Rattle.sheet_form.proofs.rules.read_all.Goals as goal

pub returns-in-Err : goal.returns-in-Err
returns-in-Err c =
    let left = rw c.in-Some.ensures.steps.0 at c.loop-draft.invariant in
    left (Err c.in-Err.fault) (passes (rule_at c.args.interfaces.now c.args.registers.now c.in-Some.draft)
    (λ (rule : Rule). rules_from c.args.interfaces.now c.args.registers.now (c.loop-draft.rules ++ rule ∷ []) _) c.in-Err.fault c.in-Err.ensures)

pub loop-draft-preserved : goal.loop-draft-preserved
loop-draft-preserved c =
    let left = rw c.in-Some.ensures.steps.0 at c.loop-draft.invariant in
    λ answer h. left answer (follows (rule_at c.args.interfaces.now c.args.registers.now c.in-Some.draft)
    (λ (rule : Rule). rules_from c.args.interfaces.now c.args.registers.now (c.loop-draft.rules ++ rule ∷ []) _)
    c.in-Ok.rule answer c.in-Ok.ensures (rw c.in_ok-push-in-Ok.ensures.ok at h))
