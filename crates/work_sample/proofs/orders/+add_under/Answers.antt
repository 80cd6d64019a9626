use Rattle.std.proofs.Common.{◌≡◌, ◌+◌, ◌-◌, arith}
use Rattle.work_sample.proofs.Growing.{grown-under}
use Rattle.work_sample.proofs.orders.+add_under.Goals as goal

pub returns : goal.returns
returns t c =
    let more : c.args.digits ≡ (c.args.digits - 1) + 1 = omega arith in
    let all : c.loop-digit.digit ≡ 10 = omega arith in
    grown-under (c.args.digits - 1) c.args.digits c.args.most c.args.first c.loop-digit.digit c.args.order.now _ _ more c.if-most-first.false all
    c.in_ok-push.ensures.ok c.loop-digit.invariant
