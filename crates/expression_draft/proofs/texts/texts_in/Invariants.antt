use Rattle.std.proofs.Common.{◌≡◌}
use Rattle.expression_draft.specs.Members.{texts_in}
use Rattle.expression_draft.proofs.Rests.{after, item_count}
use Rattle.expression_draft.proofs.texts.texts_in.Given as goal

abbrev pub invariant-loop-value : goal.invariant-loop-value
invariant-loop-value l = after l.texts (texts_in l.items) ≡ texts_in l.fn.items

abbrev pub decreases-loop-value : goal.decreases-loop-value
decreases-loop-value l = item_count l.items
