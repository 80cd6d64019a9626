use Rattle.std.proofs.Common.{◌≡◌, length}
use Rattle.sheet_draft.specs.Rules.{step_of}
use Rattle.sheet_draft.specs.Sheets.{each}
use Rattle.sheet_draft.specs.declared.places.Place.TheVariants.{Rule}
use Rattle.sheet_draft.specs.declared.places.Spot.TheVariants.{Step}
use Rattle.expression_draft.proofs.Rests.{item_count}
use Rattle.sheet_draft.proofs.Rests.{behind}
use Rattle.sheet_draft.proofs.rules.read_steps.Given as goal

abbrev pub invariant-loop-value : goal.invariant-loop-value
invariant-loop-value l =
    behind l.steps (each (λ k. Rule l.name (Step l.b k)) step_of (length l.steps) l.items)
    ≡ each (λ k. Rule l.name (Step l.b k)) step_of 0 l.fn.items

abbrev pub decreases-loop-value : goal.decreases-loop-value
decreases-loop-value l = item_count l.items
