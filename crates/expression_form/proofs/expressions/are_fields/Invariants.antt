use Rattle.std.proofs.Common.{◌≡◌, drop}
use Rattle.expression_form.specs.Expressions.{are_fields, names_of}
use Rattle.expression_form.proofs.expressions.are_fields.Given as goal

abbrev pub invariant-loop-member : goal.invariant-loop-member
invariant-loop-member l = are_fields l.fields (names_of (drop l.member-index l.members)) ≡ are_fields l.fields (names_of l.members)
