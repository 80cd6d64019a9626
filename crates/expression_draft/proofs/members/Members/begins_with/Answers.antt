use Rattle.std.proofs.Common.{ap, ◌∙◌}
use Rattle.std.specs.Str.{bytes_eq}
use Rattle.expression_draft.specs.Members.{begins_with}
use Rattle.expression_draft.proofs.Fronts.{first_name}
use Rattle.expression_draft.proofs.members.Members.begins_with.Goals as goal

pub returns-in-Some : goal.returns-in-Some
returns-in-Some c =
    let text = c.as_str.ensures.value in
    let named = first_name c.self.inside.left.entries (c.in-Some.first.now, c.in-Some.field-0-1.now) c.args.name.now c.in-Some.ensures.first in
    c.eq.ensures ∙ ap (λ first. bytes_eq first c.args.name.now) text ∙ named ∙ ap (begins_with c.args.name.now) c.self.view_is
