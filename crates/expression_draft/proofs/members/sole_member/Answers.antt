use Rattle.std.proofs.Common.{sym}
use Rattle.expression_draft.proofs.Soles.{sole_left, more_left, none_left, no_object}
use Rattle.expression_draft.proofs.members.sole_member.Goals as goal

pub returns-then-is_empty : goal.returns-then-is_empty
returns-then-is_empty c = sole_left _ _ _ _ _ c.in-Some.ensures c.in-Some-first.ensures (sym c.if-is_empty.ensures)

pub returns-in-Some-first : goal.returns-in-Some-first
returns-in-Some-first c = more_left _ _ _ _ _ c.in-Some.ensures c.in-Some-first.ensures (sym c.if-is_empty.ensures)

pub returns-in-Some : goal.returns-in-Some
returns-in-Some c = none_left _ _ c.in-Some.ensures c.in-None-first.ensures.0

pub returns : goal.returns
returns c = no_object _ c.in-None.ensures
