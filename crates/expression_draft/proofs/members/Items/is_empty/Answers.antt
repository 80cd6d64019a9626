use Rattle.std.proofs.Common.{ap, ◌∙◌, sym}
use Rattle.expression_draft.specs.Members.{has_no_item}
use Rattle.expression_draft.proofs.Fronts.{no_item_left, item_left}
use Rattle.expression_draft.proofs.members.Items.is_empty.Goals as goal

pub returns-in-None : goal.returns-in-None
returns-in-None c = sym (no_item_left c.self.inside.left.items c.in-None.ensures.item.3) ∙ ap has_no_item c.self.view_is

pub returns-in-Some : goal.returns-in-Some
returns-in-Some c = sym (item_left c.self.inside.left.items c.in-Some.ensures.item.3.0) ∙ ap has_no_item c.self.view_is
