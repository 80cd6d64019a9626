use Rattle.std.proofs.Common.{List, Err}
use Rattle.idl_tree.specs.declared.trees.Interface.{Interface}
use Rattle.sheet_form.specs.Interfaces.{more_by, interfaces_from}
use Rattle.sheet_form.proofs.Passing.{passes, follows}
use Rattle.sheet_form.proofs.interfaces.read_all.Goals as goal

pub returns-in-Err : goal.returns-in-Err
returns-in-Err c =
    let left = rw c.in-Some.ensures.steps.0 at c.loop-text.invariant in
    left (Err c.in-Err.fault) (passes (more_by c.loop-text.read c.in-Some.text) (λ (more : List Interface). interfaces_from more _) c.in-Err.fault c.in-Err.ensures)

pub loop-text-preserved : goal.loop-text-preserved
loop-text-preserved c =
    let left = rw c.in-Some.ensures.steps.0 at c.loop-text.invariant in
    λ answer h. left answer (follows (more_by c.loop-text.read c.in-Some.text) (λ (more : List Interface). interfaces_from more _) c.in-Ok.more answer c.in-Ok.ensures h)
