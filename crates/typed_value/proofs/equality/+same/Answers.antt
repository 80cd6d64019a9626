use Rattle.std.proofs.Common.{arith, ◌<◌, length, sym, ap, ◌∙◌}
use Rattle.idl_tree.specs.Names.{Bytes}
use Rattle.typed_value.specs.Sizes.{is_whole, levels_of}
use Rattle.typed_value.specs.declared.vals.Val.{Val}
use Rattle.typed_value.proofs.Depths.{greatest_at}
use Rattle.typed_value.proofs.Opened.{levels_at_items, levels_at_map, levels_at_struct}
use Rattle.typed_value.proofs.Whole.{items_whole, map_whole, struct_whole, each_at}
use Rattle.typed_value.proofs.equality.+same.Goals as goal

pub same-same_all-requires : goal.same-same_all-requires
same-same_all-requires t c =
    let one = rw c.in-Items-Items.is-0 at c.requires.one in
    let other = rw c.in-Items-Items.is-1 at c.requires.other in
    let less = rw (← c.as_slice.ensures) at (ap levels_of c.in-Items-Items.is-0 ∙ levels_at_items c.in-Items-Items.a) in
    (omega (arith, c.decreases, less), (rw c.as_slice.ensures (sym (items_whole c.in-Items-Items.a) ∙ one), rw c.as_slice-in-Items-Items.ensures (sym (items_whole c.in-Items-Items.b) ∙ other)))

pub same-same_entries-requires : goal.same-same_entries-requires
same-same_entries-requires t c =
    let one = rw c.in-Map-Map.is-0 at c.requires.one in
    let other = rw c.in-Map-Map.is-1 at c.requires.other in
    let less = rw (← c.as_slice-in-Map-Map.ensures) at (ap levels_of c.in-Map-Map.is-0 ∙ levels_at_map c.in-Map-Map.a) in
    (omega (arith, c.decreases, less), (rw c.as_slice-in-Map-Map.ensures (sym (map_whole c.in-Map-Map.a) ∙ one), rw c.as_slice-in-Map-Map-2.ensures (sym (map_whole c.in-Map-Map.b) ∙ other)))

pub same-same_all-requires-in-Struct-Struct : goal.same-same_all-requires-in-Struct-Struct
same-same_all-requires-in-Struct-Struct t c =
    let one = rw c.in-Struct-Struct.is-0 at c.requires.one in
    let other = rw c.in-Struct-Struct.is-1 at c.requires.other in
    let less = rw (← c.as_slice-in-Struct-Struct.ensures) at (ap levels_of c.in-Struct-Struct.is-0 ∙ levels_at_struct c.in-Struct-Struct.a) in
    (omega (arith, c.decreases, less), (rw c.as_slice-in-Struct-Struct.ensures (sym (struct_whole c.in-Struct-Struct.a) ∙ one), rw c.as_slice-in-Struct-Struct-2.ensures (sym (struct_whole c.in-Struct-Struct.b) ∙ other)))

pub same_all-same-requires : goal.same_all-same-requires
same_all-same-requires t c =
    let within : c.loop-i.i < length c.args.other.now = omega (arith, c.if-one-other.false, c.loop-i-test.true) in
    let one = each_at is_whole c.args.one.now c.loop-i.i c.index-one-i.result c.requires.one c.loop-i-test.true c.index-one-i.is in
    let other = each_at is_whole c.args.other.now c.loop-i.i c.index-other-i.result c.requires.other within c.index-other-i.is in
    let less = greatest_at levels_of c.args.one.now c.loop-i.i c.index-one-i.result c.loop-i-test.true c.index-one-i.is in
    (omega (arith, c.decreases, less), (one, other))

pub same_entries-same_entry-requires : goal.same_entries-same_entry-requires
same_entries-same_entry-requires t c =
    let within : c.loop-i.i < length c.args.other.now = omega (arith, c.if-one-other.false, c.loop-i-test.true) in
    let whole = λ (entry : Bytes × Val). is_whole entry.1 in
    let one = each_at whole c.args.one.now c.loop-i.i c.index-one-i.result c.requires.one c.loop-i-test.true c.index-one-i.is in
    let other = each_at whole c.args.other.now c.loop-i.i c.index-other-i.result c.requires.other within c.index-other-i.is in
    let less = greatest_at (λ (entry : Bytes × Val). levels_of entry.1) c.args.one.now c.loop-i.i c.index-one-i.result c.loop-i-test.true c.index-one-i.is in
    (omega (arith, c.decreases, less), (one, other))
