use Rattle.std.proofs.Common.{◌≡◌, drop}
use Rattle.rule_values.specs.Scenes.{env_of}
use Rattle.sheet_step.specs.Step.{taken}
use Rattle.sheet_step.proofs.choices.choose.Given as goal

abbrev pub invariant-loop-branch : goal.invariant-loop-branch
invariant-loop-branch l = taken (drop l.branch-index l.branches) (env_of l.scene) ≡ taken l.branches (env_of l.scene)
