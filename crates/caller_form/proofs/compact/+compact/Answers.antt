use Rattle.std.proofs.Common.{length, ap, arith}
use Rattle.caller_form.proofs.CompactLemmas.{on_some, array_takes, object_takes, no_items_take, first_item, next_item, all_items, no_members_take, first_member, next_member, all_members}
use Rattle.caller_form.proofs.compact.+compact.Goals as goal

pub take_array-returns-clause-taken : goal.take_array-returns-clause-taken
take_array-returns-clause-taken t c =
    array_takes c.args.depth c.args.text.now c.in_ok-inside.inside.now c.in_ok-rest.rest.now c.in_ok-inside.ensures (omega arith) c.in_ok-rest.ensures.taken

pub take_object-returns-clause-taken : goal.take_object-returns-clause-taken
take_object-returns-clause-taken t c =
    object_takes c.args.depth c.args.text.now c.in_ok-inside.inside.now c.in_ok-rest.rest.now c.in_ok-inside.ensures (omega arith) c.in_ok-rest.ensures.taken

pub take_items-items-init : goal.take_items-items-init
take_items-items-init t c =
    let first = c.in_ok-left in
    (first.ensures.shorter, first_item c.args.depth c.args.text.now _ _ first.ensures.taken)

pub take_items-items-preserved : goal.take_items-items-preserved
take_items-items-preserved t c =
    let l = c.items in
    let next = c.in_ok-left-2 in
    let opened = ap length c.in-Some.ensures in (
      omega (arith, l.invariant.0, next.ensures.shorter, opened),
      next_item c.args.depth c.args.text.now l.left.now c.in-Some.next.now _ _ c.in-Some.ensures next.ensures.taken l.invariant.1,
    )

pub take_items-returns-then-is_some-clause-taken : goal.take_items-returns-then-is_some-clause-taken
take_items-returns-then-is_some-clause-taken t c =
    on_some c.behind-closed.result _ _ c.behind-closed.ensures (λ rest is. no_items_take c.args.depth c.args.text.now rest.now is)

pub take_items-returns-clause-taken : goal.take_items-returns-clause-taken
take_items-returns-clause-taken t c =
    on_some c.behind-2.result _ _ c.behind-2.ensures (λ rest is. all_items c.args.depth c.args.text.now c.items.left.now rest.now is c.items.invariant.1)

pub take_members-members-init : goal.take_members-members-init
take_members-members-init t c =
    let first = c.in_ok-left in
    (first.ensures.shorter, first_member c.args.depth c.args.text.now _ _ _ first.ensures.taken)

pub take_members-members-preserved : goal.take_members-members-preserved
take_members-members-preserved t c =
    let l = c.members in
    let next = c.in_ok-left-2 in
    let opened = ap length c.in-Some.ensures in (
      omega (arith, l.invariant.0, next.ensures.shorter, opened),
      next_member c.args.depth c.args.text.now l.left.now c.in-Some.next.now _ _ _ c.in-Some.ensures next.ensures.taken l.invariant.1,
    )

pub take_members-returns-then-is_some-clause-taken : goal.take_members-returns-then-is_some-clause-taken
take_members-returns-then-is_some-clause-taken t c =
    on_some c.behind-closed.result _ _ c.behind-closed.ensures (λ rest is. no_members_take c.args.depth c.args.text.now rest.now is)

pub take_members-returns-clause-taken : goal.take_members-returns-clause-taken
take_members-returns-clause-taken t c =
    on_some c.behind-2.result _ _ c.behind-2.ensures (λ rest is. all_members c.args.depth c.args.text.now c.members.left.now rest.now is c.members.invariant.1)
