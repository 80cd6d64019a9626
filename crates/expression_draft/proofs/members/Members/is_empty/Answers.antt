use Rattle.std.proofs.Common.{ap, ◌∙◌, nat_eq}
use Rattle.expression_draft.specs.Members.{has_no_member}
use Rattle.expression_draft.proofs.Fronts.{member_count}
use Rattle.expression_draft.proofs.members.Members.is_empty.Goals as goal

pub returns : goal.returns
returns c = ap (λ n. nat_eq n 0) c.len.ensures.len ∙ member_count c.self.inside.left.entries ∙ ap has_no_member c.self.view_is
