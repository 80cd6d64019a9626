use Rattle.std.proofs.Common.{◌+◌, arith, sym, ap, subst, ◌∙◌, List}
use Rattle.std.proofs.lemmas.List.{length-drop}
use Rattle.sheet_step.specs.Registers.{after_step, after_steps}
use Rattle.sheet_step.specs.Undoing.{all_undone}
use Rattle.sheet_step.specs.declared.backs.Undo.{Undo}
use Rattle.sheet_step.proofs.Runs.{steps_more, undone_last}
use Rattle.sheet_step.specs.Levels.{Told}
use Rattle.sheet_step.specs.declared.levels.Depth.{Depth}
use Rattle.sheet_step.proofs.KnownDepths.{told_next}
use Rattle.sheet_step.proofs.steps.act_all.Goals as goal

pub loop-step-preserved : goal.loop-step-preserved
loop-step-preserved c =
    let steps = c.args.steps.now in
    let i = c.loop-step.step-index in
    let mid = c.loop-step.registers.items in
    let now = c.act.new.registers.items in
    let us = c.loop-step.undos.items in
    let act = c.in_ok-done.done in
    let u = act.undo in
    record {
      ahead = steps_more c.args.parameters.now steps i c.step-item.result mid now (after_steps c.args.parameters.now steps c.args.registers.now.items)
          c.loop-step-test.true c.step-item.is c.in_ok-done.ensures.ok.done c.loop-step.invariant.ahead;
      back = ap (λ (all : List Undo). all_undone all now) c.push_reserved.ensures.items
          ∙ (undone_last us u now mid c.in_ok-done.ensures.ok.back ∙ c.loop-step.invariant.back);
      told = subst (λ (d : Depth). Told d now) (sym c.next_depth-depth.ensures)
          (told_next c.loop-step.depth mid now act (after_step c.args.parameters.now c.step-item.result mid) c.in_ok-done.ensures.ok c.loop-step.invariant.told);
      room = omega (arith, length-drop (i + 1) steps, length-drop i steps, c.push_reserved.ensures.len, c.push_reserved.ensures.capacity, c.loop-step.invariant.room, c.loop-step-test.true);
    }
