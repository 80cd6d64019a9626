use Rattle.std.proofs.Common.{◌≡◌}
use Rattle.sheet_draft.specs.Rules.{branches_in}
use Rattle.expression_draft.proofs.Rests.{after, item_count}
use Rattle.sheet_draft.proofs.branches.branches_in.Given as goal

abbrev pub invariant-loop-value : goal.invariant-loop-value
invariant-loop-value l = after l.branches (branches_in l.items) ≡ branches_in l.fn.items

abbrev pub decreases-loop-value : goal.decreases-loop-value
decreases-loop-value l = item_count l.items
