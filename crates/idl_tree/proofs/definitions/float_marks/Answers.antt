use Rattle.std.proofs.Common.{◌≡◌, List, [], None, subst}
use Rattle.idl_tree.specs.Faults.{Reports, members_fault}
use Rattle.idl_tree.specs.declared.trees.Member.{Member}
use Rattle.idl_tree.proofs.MemberNames.{defined_in}
use Rattle.idl_tree.proofs.definitions.float_marks.Goals as goal

pub returns-in_ok-mark_floats-in-Ok-clause-answer : goal.returns-in_ok-mark_floats-in-Ok-clause-answer
returns-in_ok-mark_floats-in-Ok-clause-answer c =
    subst (λ (members : List Member). members_fault (defined_in members) [] members ≡ None) c.as_slice.ensures c.in-Ok.ensures

pub returns-in-Err-clause-answer : goal.returns-in-Err-clause-answer
returns-in-Err-clause-answer c =
    subst (λ (members : List Member). Reports c.in-Err.fault (members_fault (defined_in members) [] members)) c.as_slice.ensures c.in-Err.ensures
