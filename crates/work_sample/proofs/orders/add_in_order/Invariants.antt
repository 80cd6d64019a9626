use Rattle.std.proofs.Common.{◌≡◌, ◌+◌, ◌++◌}
use Rattle.work_sample.specs.Texts.{below, under}
use Rattle.work_sample.proofs.orders.add_in_order.Given as goal

-- the numbers of the rounds made were added
abbrev pub invariant-loop-digit : goal.invariant-loop-digit
invariant-loop-digit l = l.order ≡ l.initial.order ++ below (λ digit. under 5 l.most (digit + 1)) l.digit
