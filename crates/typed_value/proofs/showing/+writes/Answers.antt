use Rattle.std.proofs.Common.{refl}
use Rattle.typed_value.proofs.Opened.{written_items, written_map}
use Rattle.typed_value.proofs.showing.+writes.Goals as goal

pub write-returns-in_ok-write_items-in-Items : goal.write-returns-in_ok-write_items-in-Items
write-returns-in_ok-write_items-in-Items t c =
    rw (c.in-Items.is, written_items, c.in_ok-write_items-in-Items.ensures, c.part_prefixes-behind.ensures, c.as_slice.ensures) refl

pub write-returns-in_ok-write_map-in-Map : goal.write-returns-in_ok-write_map-in-Map
write-returns-in_ok-write_map-in-Map t c =
    rw (c.in-Map.is, written_map, c.in_ok-write_map-in-Map.ensures, c.part_prefixes-behind-in-Map.ensures, c.as_slice-in-Map.ensures) refl
