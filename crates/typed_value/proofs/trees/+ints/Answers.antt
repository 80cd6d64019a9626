use Rattle.std.proofs.Common.{◌≡◌, true, refl, sym}
use Rattle.serde_json.specs.View.{view}
use Rattle.serde_json.proofs.Views.{Entry}
use Rattle.typed_value.specs.Ints.{has_only_ints}
use Rattle.typed_value.proofs.Orders.{sorted_rest, order_more}
use Rattle.typed_value.proofs.trees.+ints.Goals as goal

pub members_have_only_ints-loop-member-preserved : goal.members_have_only_ints-loop-member-preserved
members_have_only_ints-loop-member-preserved t c =
    let entry : Entry = (c.in-Some.field-0-0.now, c.in-Some.member.now) in
    let sorted = rw c.in-Some.ensures.steps at c.loop-member.invariant.sorted in
    let ints = rw c.in-Some.ensures.steps at c.loop-member.invariant.ints in
    let order = rw c.in-Some.ensures.steps at c.loop-member.invariant.order in
    let whole : has_only_ints (view c.in-Some.member.now) ≡ true = sym c.if-not-has_only_ints.ensures.ints in
    record {
      ints = rw whole at ints;
      sorted = sorted_rest entry c.next.new.self sorted;
      order = λ rest. order (order_more entry c.next.new.self sorted (c.if-not-has_only_ints.ensures.order refl) rest);
    }
