use Rattle.std.proofs.Common.{List, ap, ◌∙◌}
use Rattle.idl_tree.specs.declared.trees.Interface.{Interface}
use Rattle.sheet_form.specs.Interfaces.{has_interface}
use Rattle.sheet_form.proofs.Names.{has_is}
use Rattle.sheet_form.proofs.interfaces.Interfaces.has.Goals as goal

pub returns : goal.returns
returns c = c.contains.ensures ∙ has_is c.self.inside.names.keys c.self.inside.list c.args.name.now c.self.invariant
    ∙ ap (λ (interfaces : List Interface). has_interface interfaces c.args.name.now) c.self.view_is
