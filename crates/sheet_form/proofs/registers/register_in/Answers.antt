use Rattle.idl_tree.specs.declared.trees.TypeRef.{TypeRef}
use Rattle.typed_value.specs.declared.vals.Val.{Val}
use Rattle.sheet_form.specs.Answers.{done}
use Rattle.sheet_form.specs.Registers.{type_and_value, with_parts}
use Rattle.sheet_form.proofs.Passing.{passes}
use Rattle.sheet_form.proofs.registers.register_in.Goals as goal

pub returns-in-Err : goal.returns-in-Err
returns-in-Err c =
    passes (type_and_value c.args.interface.now c.args.register c.args.draft) (λ (parts : TypeRef × Val). done (with_parts c.args.draft.name c.args.scope parts))
    c.in-Err.fault c.in-Err.ensures
