use Rattle.std.proofs.Common.{List, ap, ◌∙◌}
use Rattle.idl_tree.specs.declared.trees.Interface.{Interface}
use Rattle.sheet_form.specs.Interfaces.{has_interface}
use Rattle.sheet_form.proofs.Names.{absent_name}
use Rattle.sheet_form.proofs.interfaces.Interfaces.with.Goals as goal

pub with_name-requires : goal.with_name-requires
with_name-requires c =
    let name = c.as_str.ensures ∙ ap (λ (interface : Interface). interface.name) c.tree.ensures.tree in
    let apart = ap (λ (interfaces : List Interface). has_interface interfaces c.args.interface.name) c.self.view_is ∙ c.requires in
    rw name (absent_name _ c.self.inside.list c.args.interface.name c.self.invariant apart)
