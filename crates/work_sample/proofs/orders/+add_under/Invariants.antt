use Rattle.std.proofs.Common.{◌≡◌, ◌+◌, ◌-◌, ◌*◌, ◌++◌}
use Rattle.work_sample.specs.Texts.{below, under}
use Rattle.work_sample.proofs.orders.+add_under.Given as goal

abbrev pub decreases-add_under : goal.decreases-add_under
decreases-add_under l = l.digits

-- the numbers of the rounds made were added
abbrev pub invariant-loop-digit : goal.invariant-loop-digit
invariant-loop-digit l =
    l.order ≡ l.initial.order ++ below (λ digit. under (l.digits - 1) l.most (l.first * 10 + digit)) l.digit
