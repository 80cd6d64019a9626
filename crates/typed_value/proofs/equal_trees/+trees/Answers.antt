use Rattle.std.proofs.Common.{arith, ◌≡◌, ◌<◌, true, false, length, sym, ◌∙◌}
use Rattle.typed_value.proofs.Depths.{item_less}
use Rattle.typed_value.proofs.EqualItems.{length_same, item_same, ints_at}
use Rattle.typed_value.proofs.equal_trees.+trees.Goals as goal

pub same_items-returns-then-one-other : goal.same_items-returns-then-one-other
same_items-returns-then-one-other t c =
    (λ (no : false ≡ true). absurd (cc), λ same. absurd (c.if-one-other.true (length_same c.args.one.now c.args.other.now same)))

pub same_items-same_tree-requires : goal.same_items-same_tree-requires
same_items-same_tree-requires t c =
    let within : c.loop-i.i < length c.args.other.now = omega (arith, c.if-one-other.false, c.loop-i-test.true) in
    let one = ints_at c.args.one.now c.loop-i.i c.index-one-i.result c.requires.one c.loop-i-test.true c.index-one-i.is in
    let other = ints_at c.args.other.now c.loop-i.i c.index-other-i.result c.requires.other within c.index-other-i.is in
    let less = item_less c.args.one.now c.loop-i.i c.index-one-i.result c.loop-i-test.true c.index-one-i.is in
    (omega (arith, c.decreases, less), (one, other))

pub same_items-returns-then-not-same_tree : goal.same_items-returns-then-not-same_tree
same_items-returns-then-not-same_tree t c =
    let within : c.loop-i.i < length c.args.other.now = omega (arith, c.if-one-other.false, c.loop-i-test.true) in (
      λ (no : false ≡ true). absurd (cc),
      λ same. sym c.if-not-same_tree.true ∙ c.same_tree.ensures.1
          (item_same c.args.one.now c.args.other.now c.loop-i.i c.index-one-i.result c.index-other-i.result c.loop-i-test.true within c.index-one-i.is c.index-other-i.is same),
    )
