use Rattle.serde_json.proofs.Views.{members_view-insert_entry}
use Rattle.std.proofs.Common.{ap, ◌∙◌, refl}
use Rattle.serde_json.specs.View.{members_view}
use Rattle.typed_value.proofs.showing.put.Goals as goal

pub returns-in-Ok-insert : goal.returns-in-Ok-insert
returns-in-Ok-insert c =
    ap members_view c.in-Ok-insert.ensures.entries
    ∙ members_view-insert_entry c.args.members.now.entries c.in-Ok.key c.args.member ∙ rw (c.in-Ok.ensures.ok, c.as_str.ensures) refl
