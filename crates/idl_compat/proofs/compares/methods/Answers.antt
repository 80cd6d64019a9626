use Rattle.idl_compat.specs.Order.{comparisons_of_method}
use Rattle.idl_compat.proofs.Ordering.{method_told, methods_next, told_of, well_of, of_both}
use Rattle.idl_compat.proofs.compares.methods.Goals as goal

pub returns-in-Some-clause-compared : goal.returns-in-Some-clause-compared
returns-in-Some-clause-compared c =
    let first = c.args.both.now.first.scope.now in
    let second = c.args.both.now.second.scope.now in
    let of = c.loop-member.invariant.of in
    method_told first second c.args.members.now c.loop-member.member-index c.member-item.result c.in-Some.verdict c.loop-member-test.true c.member-item.is c.loop-member.invariant.well
    (told_of (comparisons_of_method c.loop-member.both.first.scope.now c.loop-member.both.second.scope.now c.member-item.result.name c.member-item.result.part)
    (comparisons_of_method first second c.member-item.result.name c.member-item.result.part) c.in_ok-verdict.field-0 c.in-Some.verdict
    (λ i. comparisons_of_method (of.first i) (of.second i) c.member-item.result.name c.member-item.result.part) c.in-Some.is c.in_ok-verdict.ensures.compared)

pub loop-member-preserved : goal.loop-member-preserved
loop-member-preserved c =
    let first = c.args.both.now.first.scope.now in
    let second = c.args.both.now.second.scope.now in
    let of = c.loop-member.invariant.of in
    record {
      well = methods_next first second c.args.members.now c.loop-member.member-index c.member-item.result c.loop-member-test.true c.member-item.is c.loop-member.invariant.well
          (well_of (comparisons_of_method c.loop-member.both.first.scope.now c.loop-member.both.second.scope.now c.member-item.result.name c.member-item.result.part)
          (comparisons_of_method first second c.member-item.result.name c.member-item.result.part) c.in_ok-verdict.field-0
          (λ i. comparisons_of_method (of.first i) (of.second i) c.member-item.result.name c.member-item.result.part) c.in-None.is c.in_ok-verdict.ensures.compared);
      within = c.in_ok-verdict.ensures.within c.in-None.is;
      of = of_both c.loop-member.both c.method.new.both first second of c.in_ok-verdict.ensures.of;
    }
