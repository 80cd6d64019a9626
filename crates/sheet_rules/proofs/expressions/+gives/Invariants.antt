use Rattle.std.proofs.Common.{◌≡◌, drop, length, map}
use Rattle.sheet_rules.specs.Gives.{gives, all_given, each_given}
use Rattle.sheet_rules.specs.Views.{typ_of, setting_of}
use Rattle.sheet_rules.proofs.expressions.+gives.Given as goal

abbrev pub invariant-all_give-loop-expr : goal.invariant-all_give-loop-expr
invariant-all_give-loop-expr l =
    all_given (map (gives (setting_of l.standing)) (drop l.expr-index l.exprs)) (typ_of l.of)
    ≡ all_given (map (gives (setting_of l.standing)) l.exprs) (typ_of l.of)

abbrev pub invariant-fields_given-loop-i : goal.invariant-fields_given-loop-i
invariant-fields_given-loop-i l = (length l.fields ≡ length l.exprs)
    × (each_given l.scope (drop l.i l.fields) (map (gives (setting_of l.standing)) (drop l.i l.exprs))
    ≡ each_given l.scope l.fields (map (gives (setting_of l.standing)) l.exprs))
