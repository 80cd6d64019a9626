use Rattle.std.proofs.Common.{◌≡◌, drop, map}
use Rattle.typed_value.specs.Reads.{all_of}
use Rattle.sheet_rules.specs.Views.{typ_of, setting_of}
use Rattle.expression_form.specs.Expressions.{Maker, made, field_made, makers_of}
use Rattle.expression_form.proofs.After.{after}
use Rattle.expression_form.proofs.expressions.+making.Given as goal

abbrev pub invariant-struct_made-loop-field : goal.invariant-struct_made-loop-field
invariant-struct_made-loop-field l =
    after l.exprs (all_of (map (field_made l.scope (makers_of (setting_of l.ground.standing) l.members)) (drop l.field-index l.fields)))
    ≡ all_of (map (field_made l.scope (makers_of (setting_of l.ground.standing) l.members)) l.fields)

abbrev pub invariant-field_made-loop-member : goal.invariant-field_made-loop-member
invariant-field_made-loop-member l =
    field_made l.scope (makers_of (setting_of l.ground.standing) (drop l.member-index l.members)) l.field
    ≡ field_made l.scope (makers_of (setting_of l.ground.standing) l.members) l.field

abbrev pub invariant-items_made-loop-draft : goal.invariant-items_made-loop-draft
invariant-items_made-loop-draft l =
    after l.exprs (all_of (map (λ (maker : Maker). maker (typ_of l.of)) (map (made (setting_of l.ground.standing)) (drop l.draft-index l.drafts))))
    ≡ all_of (map (λ (maker : Maker). maker (typ_of l.of)) (map (made (setting_of l.ground.standing)) l.drafts))
