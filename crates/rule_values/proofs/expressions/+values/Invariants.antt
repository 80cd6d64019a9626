use Rattle.std.proofs.Common.{◌≡◌, ◌++◌, drop, map, option_map, List}
use Rattle.typed_value.specs.declared.vals.Val.{Val}
use Rattle.rule_values.specs.Meanings.{meaning, all_of}
use Rattle.rule_values.specs.Scenes.{env_of}
use Rattle.rule_values.proofs.expressions.+values.Given as goal

abbrev pub invariant-values-loop-expr : goal.invariant-values-loop-expr
invariant-values-loop-expr l =
    all_of (map meaning l.exprs) (env_of l.scene)
    ≡ option_map (λ (rest : List Val). l.vals ++ rest) (all_of (map meaning (drop l.expr-index l.exprs)) (env_of l.scene))
