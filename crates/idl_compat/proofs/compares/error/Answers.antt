use Rattle.std.proofs.Common.{subst, Option, List}
use Rattle.idl_tree.specs.Names.{Bytes}
use Rattle.idl_compat.specs.Order.{comparisons_of_error}
use Rattle.idl_compat.specs.Walks.{FoundIn}
use Rattle.idl_compat.specs.declared.verdicts.Side.TheVariants.{Error}
use Rattle.idl_compat.specs.declared.verdicts.Verdict.TheVariants.{Differs}
use Rattle.idl_compat.proofs.ByKinds.{now_some}
use Rattle.idl_compat.proofs.Ordering.{error_differs, differs_ok}
use Rattle.idl_compat.proofs.compares.error.Goals as goal

pub returns-in-Some-2-clause-compared : goal.returns-in-Some-2-clause-compared
returns-in-Some-2-clause-compared c =
    let first = c.args.both.now.first.scope.now in
    let second = c.args.both.now.second.scope.now in
    let member = c.args.member.now in
    differs_ok c.differs.result (Differs member.name Error c.in-Some-2.path) (comparisons_of_error first second member.name member.part)
    (rw c.as_str-name.ensures at c.differs.ensures)
    (error_differs first second member.name member.part c.in-Fault.body c.in-Some.found.now c.in-Some-2.path c.in-Fault.is
    (now_some _ c.error_of.result c.in-Some.found (rw c.as_str-name.ensures at c.error_of.ensures) c.in-Some.is)
    (subst (λ (path : Option (List Bytes)). FoundIn (second, first) c.in-Some.found.now c.in-Fault.body path) c.in-Some-2.is c.in_ok-path-in-Fault.ensures.found))
