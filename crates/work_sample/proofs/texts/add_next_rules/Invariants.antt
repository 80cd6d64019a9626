use Rattle.std.proofs.Common.{◌≡◌, ◌++◌, take}
use Rattle.std.specs.List.{flat_map}
use Rattle.work_sample.specs.Texts.{next_rule}
use Rattle.work_sample.proofs.texts.add_next_rules.Given as goal

-- the rules of the numbers before were added
abbrev pub invariant-loop-k : goal.invariant-loop-k
invariant-loop-k l = l.text.items ≡ l.initial.text.items ++ flat_map next_rule (take l.k-index l.order)
