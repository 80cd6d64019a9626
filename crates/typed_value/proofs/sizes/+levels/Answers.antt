use Rattle.std.proofs.Common.{arith, ap, ◌∙◌}
use Rattle.typed_value.specs.Sizes.{levels_of}
use Rattle.typed_value.proofs.Opened.{levels_at_map}
use Rattle.typed_value.proofs.sizes.+levels.Goals as goal

pub levels-returns-in-Map : goal.levels-returns-in-Map
levels-returns-in-Map t c =
    let is = ap levels_of c.in-Map.is ∙ levels_at_map c.in-Map.entries in
    let parts = rw c.as_slice-in-Map.ensures at c.most_entry_levels.ensures in
    omega (arith, is, parts, c.one_more-in-Map.ensures)
