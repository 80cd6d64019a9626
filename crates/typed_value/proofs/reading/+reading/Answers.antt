use Rattle.std.proofs.Common.{arith, refl, sym, ◌∙◌, append-nil}
use Rattle.serde_json.specs.View.{view, members_view}
use Rattle.idl_tree.specs.declared.trees.Body.TheVariants.{outs-Struct}
use Rattle.typed_value.specs.Reads.{all_of}
use Rattle.typed_value.specs.Parts.{member_reads}
use Rattle.typed_value.proofs.Depths.{get_less, item_less}
use Rattle.typed_value.proofs.Orders.{in_order}
use Rattle.typed_value.proofs.Readers.{struct_is, reader_is, plain_reader, array_is}
use Rattle.typed_value.proofs.Rests.{after_more}
use Rattle.typed_value.proofs.reading.+reading.Goals as goal
use Rattle.typed_value.proofs.reading.+reading.Goals.{read_type-else-is_null-via-then-is_null+else-begins_with_maybe, read_type-else-is_null-via-else-is_null}

pub read_body-returns-else-not-is_object : goal.read_body-returns-else-not-is_object
read_body-returns-else-not-is_object t c =
    let is = struct_is c.args.scope.now c.in-Struct.fields c.in-Struct.ending (view c.args.json.now) (sym c.if-not-is_object.ensures) in
    rw (c.in-Struct.is, outs-Struct c.in-Struct.fields c.in-Struct.ending, is, ← c.as_slice.ensures) c.read_struct.ensures

pub read_field-read_type-requires : goal.read_field-read_type-requires
read_field-read_type-requires t c =
    let less = get_less c.as_str.result.now (view c.args.json.now) (view c.in-Some.member.now) (sym c.in-Some.ensures) in
    (omega (arith, c.decreases, less), tt)

pub read_items-read_type-requires : goal.read_items-read_type-requires
read_items-read_type-requires t c =
    let less = item_less c.deref-item-items.result.now c.loop-item.item-index c.item-item.result c.loop-item-test.true c.item-item.is in
    let same = rw c.deref-item-items.ensures.value at less in
    (omega (arith, c.decreases, same), tt)

pub read_members-read_type-requires : goal.read_members-read_type-requires
read_members-read_type-requires t c =
    let within = c.loop-key.invariant.within in
    let less = rw c.in-Some.ensures.steps at within in
    (omega (arith, c.decreases, less), tt)

pub read_members-loop-key-preserved : goal.read_members-loop-key-preserved
read_members-loop-key-preserved t c =
    let left = c.loop-key.invariant.left in
    let within = c.loop-key.invariant.within in
    let opened = rw (c.in-Some.ensures.steps, c.in_ok-value.ensures) at left in
    let less = rw c.in-Some.ensures.steps at within in
    let rest = all_of (member_reads c.args.scope.now c.args.prefixes.now c.args.core.now (members_view c.next.new.self)) in
    record {
      left = rw (c.in_ok-push.ensures.ok, c.in_ok-of.ensures.bytes, c.as_str.ensures.value) (sym (after_more c.loop-key.entries _ rest) ∙ opened);
      within = omega (arith, less);
    }

pub read_members-returns : goal.read_members-returns
read_members-returns t c =
    let ordered = in_order c.args.scope.now c.args.members.now.entries c.iter-key-items.ensures.ordered in
    let left = c.loop-key.invariant.left in
    let done = rw c.in-None.ensures.steps.0 at left in
    rw (ordered, ← done, append-nil) refl

pub read_array-returns-in-Some : goal.read_array-returns-in-Some
read_array-returns-in-Some t c =
    rw (array_is c.args.scope.now (view c.args.json.now) c.args.prefixes.now c.args.core.now, ← c.in-Some.ensures) c.read_items.ensures

pub read_type-returns : goal.read_type-returns
read_type-returns t c =
    let scope = c.args.scope.now in
    let d = view c.args.json.now in
    let prefixes = c.args.prefixes.now in
    let core = c.args.core.now in
    elim c.else-is_null.branch [
      | read_type-else-is_null-via-then-is_null+else-begins_with_maybe w ↦ rw
          (plain_reader scope d prefixes core (sym w.if-begins_with_maybe.ensures), ← c.behind_maybes.ensures.rest) c.read_plain.ensures
      | read_type-else-is_null-via-else-is_null w ↦ rw
          (reader_is scope d (sym w.if-is_null.ensures) prefixes core, ← c.behind_maybes.ensures.rest) c.read_plain.ensures
    ]
