use Rattle.std.proofs.Common.{arith, ap, ◌∙◌}
use Rattle.typed_value.specs.Sizes.{weight_of}
use Rattle.typed_value.proofs.Opened.{weight_at_map}
use Rattle.typed_value.proofs.weights.+weights.Goals as goal

pub weight-returns-in-Map : goal.weight-returns-in-Map
weight-returns-in-Map t c =
    let is = ap weight_of c.in-Map.is ∙ weight_at_map c.in-Map.entries in
    let parts = rw c.as_slice-in-Map.ensures at c.weigh_entries.ensures in
    omega (arith, is, parts, c.add-in-Map.ensures)
