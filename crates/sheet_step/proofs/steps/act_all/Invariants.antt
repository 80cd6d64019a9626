use Rattle.std.proofs.Common.{◌≡◌, ◌≤◌, ◌+◌, Some, drop, length}
use Rattle.std.specs.Prelude.{vec_len, vec_capacity}
use Rattle.sheet_step.specs.Levels.{Told}
use Rattle.sheet_step.specs.Registers.{after_steps}
use Rattle.sheet_step.specs.Undoing.{all_undone}
use Rattle.sheet_step.proofs.steps.act_all.Given as goal

abbrev pub invariant-loop-step : goal.invariant-loop-step
invariant-loop-step l = record {
  ahead : after_steps l.parameters (drop l.step-index l.steps) l.registers.items ≡ after_steps l.parameters l.steps l.fn.registers.items;
  back : all_undone l.undos.items l.registers.items ≡ Some l.fn.registers.items;
  told : Told l.depth l.registers.items;
  room : length (drop l.step-index l.steps) + vec_len l.undos ≤ vec_capacity l.undos;
}
