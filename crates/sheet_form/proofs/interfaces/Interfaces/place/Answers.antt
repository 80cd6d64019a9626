use Rattle.std.proofs.Common.{List, ap, ◌∙◌}
use Rattle.idl_tree.specs.declared.trees.Interface.{Interface}
use Rattle.rule_form.specs.Rules.{interface_place}
use Rattle.sheet_form.proofs.Names.{place_is}
use Rattle.sheet_form.proofs.interfaces.Interfaces.place.Goals as goal

pub returns-in-Some : goal.returns-in-Some
returns-in-Some c = c.in-Some.ensures.index ∙ place_is c.self.inside.names.keys c.self.inside.list c.args.name.now c.self.invariant
    ∙ ap (λ (interfaces : List Interface). interface_place interfaces c.args.name.now) c.self.view_is

pub returns-in-None : goal.returns-in-None
returns-in-None c = c.in-None.ensures.index ∙ place_is c.self.inside.names.keys c.self.inside.list c.args.name.now c.self.invariant
    ∙ ap (λ (interfaces : List Interface). interface_place interfaces c.args.name.now) c.self.view_is
