use Rattle.std.proofs.Common.{[], ◌∷◌, ◌++◌, length, Err}
use Rattle.sheet_rules.specs.declared.forms.Register.{Register}
use Rattle.sheet_form.specs.Registers.{register_at, registers_from}
use Rattle.sheet_form.proofs.Passing.{passes, follows}
use Rattle.sheet_form.proofs.registers.read_all.Goals as goal

pub returns-in-Err : goal.returns-in-Err
returns-in-Err c =
    let left = rw c.in-Some.ensures.steps.0 at c.loop-draft.invariant in
    let read = rw c.len.ensures at c.in-Err.ensures in
    left (Err c.in-Err.fault) (passes (register_at c.args.interfaces.now (length c.loop-draft.registers) c.in-Some.draft)
    (λ (register : Register). registers_from c.args.interfaces.now (c.loop-draft.registers ++ register ∷ []) _) c.in-Err.fault read)

pub loop-draft-preserved : goal.loop-draft-preserved
loop-draft-preserved c =
    let left = rw c.in-Some.ensures.steps.0 at c.loop-draft.invariant in
    let read = rw c.len.ensures at c.in-Ok.ensures in
    λ answer h. left answer (follows (register_at c.args.interfaces.now (length c.loop-draft.registers) c.in-Some.draft)
    (λ (register : Register). registers_from c.args.interfaces.now (c.loop-draft.registers ++ register ∷ []) _)
    c.in-Ok.register answer read (rw c.in_ok-push-in-Ok.ensures.ok at h))
