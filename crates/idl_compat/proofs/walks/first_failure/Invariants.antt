use Rattle.std.proofs.Common.{◌≡◌, ◌≤◌, ◌+◌, ◌-◌, true, length}
use Rattle.idl_tree.specs.declared.trees.Body.{Body}
use Rattle.idl_compat.specs.Walks.{AreAt, Walking, has, unseen_by, size}
use Rattle.idl_compat.proofs.walks.first_failure.Given as goal

abbrev pub invariant-loop-place : goal.invariant-loop-place
invariant-loop-place l =
    record {
      walking : (root by : Body) → AreAt l.walk.from.now l.walk.to.now l.fn.root.0 l.fn.root.1 root by
          → Walking l.walk.from.now l.walk.to.now root by l.fn.seen l.seen l.trail.items l.place;
      root_seen : has l.seen l.fn.root.0 l.fn.root.1 ≡ true;
      within : l.place ≤ length l.trail.items;
    }

abbrev pub decreases-loop-place : goal.decreases-loop-place
decreases-loop-place l = unseen_by l.seen (size l.walk.from.now) (size l.walk.to.now) + length l.trail.items - l.place
