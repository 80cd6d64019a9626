use Rattle.std.proofs.Common.{◌≡◌, ◌+◌, ◌++◌}
use Rattle.work_sample.specs.Texts.{below, method_text}
use Rattle.work_sample.proofs.texts.add_methods.Given as goal

-- the methods of the rounds made were added
abbrev pub invariant-loop-k : goal.invariant-loop-k
invariant-loop-k l = l.text.items ≡ l.initial.text.items ++ below (λ k. method_text (k + 1)) l.k
