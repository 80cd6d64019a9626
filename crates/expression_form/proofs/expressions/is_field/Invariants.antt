use Rattle.std.proofs.Common.{◌≡◌, drop}
use Rattle.expression_form.specs.Expressions.{is_field}
use Rattle.expression_form.proofs.expressions.is_field.Given as goal

abbrev pub invariant-loop-field : goal.invariant-loop-field
invariant-loop-field l = is_field (drop l.field-index l.fields) l.name ≡ is_field l.fields l.name
