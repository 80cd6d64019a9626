use Rattle.std.proofs.Common.{◌≡◌, ◌+◌, ◌++◌}
use Rattle.work_sample.specs.Texts.{below, call_text}
use Rattle.work_sample.proofs.texts.add_calls.Given as goal

-- the calls of the rounds made were added
abbrev pub invariant-loop-k : goal.invariant-loop-k
invariant-loop-k l = l.text.items ≡ l.initial.text.items ++ below (λ k. call_text (k + 1)) l.k
