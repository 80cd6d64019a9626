use Rattle.serde_json.specs.Data.{no_members, put}
use Rattle.caller_form.proofs.CompactLemmas.{none_take, first_bare, first_completes, next_completes, all_taken}
use Rattle.caller_form.proofs.compact.take_reply.Goals as goal

pub returns-in-Some : goal.returns-in-Some
returns-in-Some c = none_take c.args.depth c.args.text.now c.in-Some.rest.now c.in-Some.ensures

pub members-init : goal.members-init
members-init c =
    let first = c.in_ok-first.first in
    let taken = c.in_ok-first.ensures.taken in (
      put first.name.now taken.tree no_members,
      first_bare c.args.depth c.args.text.now first.name.now first.rest.now first.sort taken _ c.in_ok-continues.ensures,
      first_completes c.args.depth c.args.text.now first.name.now first.rest.now first.sort taken,
    )

pub members-preserved : goal.members-preserved
members-preserved c =
    let l = c.members in
    let member = c.in_ok-member.member in
    let taken = c.in_ok-member.ensures.taken in (
      put member.name.now taken.tree l.invariant.0,
      c.in_ok-continues-2.ensures l.invariant.0 taken.tree l.invariant.1 taken.sort,
      next_completes c.args.depth c.args.text.now l.left.now c.in-Some-behind.next.now member.name.now member.rest.now member.sort l.invariant.0 c.in-Some-behind.ensures taken l.invariant.2,
    )

pub returns : goal.returns
returns c =
    let l = c.members in
    all_taken c.args.depth c.args.text.now l.left.now c.in_ok-rest.rest.now l.continues l.invariant.0 c.in_ok-rest.ensures l.invariant.2 l.invariant.1
