use Rattle.std.proofs.Common.{◌≡◌, ◌++◌, drop, option_map, List}
use Rattle.typed_value.specs.declared.vals.Val.{Val}
use Rattle.rule_values.specs.Scenes.{env_of}
use Rattle.sheet_step.specs.Step.{each_reply}
use Rattle.sheet_step.proofs.endings.stream.Given as goal

abbrev pub invariant-loop-item : goal.invariant-loop-item
invariant-loop-item l =
    each_reply l.each (env_of l.scene) l.items
    ≡ option_map (λ (rest : List Val). l.replies ++ rest) (each_reply l.each (env_of l.scene) (drop l.item-index l.items))
