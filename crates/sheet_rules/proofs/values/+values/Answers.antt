use Rattle.std.proofs.Common.{arith}
use Rattle.typed_value.specs.OfType.{fits}
use Rattle.sheet_rules.specs.Views.{core_of}
use Rattle.sheet_rules.proofs.Folded.{array_fits, map_is}
use Rattle.sheet_rules.proofs.Lengths.{other_values}
use Rattle.sheet_rules.proofs.values.+values.Goals as goal

pub fields_are_of-returns-then-fields-values : goal.fields_are_of-returns-then-fields-values
fields_are_of-returns-then-fields-values t c =
    other_values (fits c.args.scope.now) c.args.fields.now c.args.values.now (λ e. omega (arith, c.if-fields-values.true, e))

pub is_of-returns-in-Items : goal.is_of-returns-in-Items
is_of-returns-in-Items t c =
    let is = array_fits c.args.scope.now c.in-Items.values c.args.prefixes.now (core_of c.args.kind.now) in
    rw (c.in-Items.is, is, ← c.behind_maybes-in-Items.ensures.rest, ← c.as_slice.ensures) c.array_is_of.ensures

pub is_of-returns-in-Map : goal.is_of-returns-in-Map
is_of-returns-in-Map t c =
    let is = map_is c.args.scope.now c.in-Map.entries c.args.prefixes.now (core_of c.args.kind.now) in
    rw (c.in-Map.is, is, ← c.behind_maybes-in-Map.ensures.rest, ← c.as_slice-in-Map.ensures) c.map_is_of.ensures
