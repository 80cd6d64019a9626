use Rattle.std.proofs.Common.{Bool, subst}
use Rattle.idl_tree.specs.Faults.{Answers, type_fault, defines}
use Rattle.idl_tree.specs.Names.{Bytes}
use Rattle.idl_tree.specs.declared.trees.Interface.{Interface}
use Rattle.idl_tree.proofs.MemberNames.{is_type_defined}
use Rattle.idl_tree.proofs.definitions.Checked.check_type.Goals as goal

pub returns : goal.returns
returns c =
    subst (λ (tree : Interface). Answers c.check_type.result (type_fault (defines tree) c.args.of.now)) c.self.view_is
    (subst (λ (defined : Bytes → Bool). Answers c.check_type.result (type_fault defined c.args.of.now))
    (is_type_defined c.self.inside.index c.self.inside.tree.members c.self.invariant.tells) c.check_type.ensures)
