use Rattle.std.proofs.Common.{◌≡◌, drop}
use Rattle.rule_values.specs.Scenes.{env_of}
use Rattle.sheet_step.specs.Step.{refusing}
use Rattle.sheet_step.proofs.choices.refusal.Given as goal

abbrev pub invariant-loop-guard : goal.invariant-loop-guard
invariant-loop-guard l = refusing (drop l.guard-index l.guards) (env_of l.scene) ≡ refusing l.guards (env_of l.scene)
