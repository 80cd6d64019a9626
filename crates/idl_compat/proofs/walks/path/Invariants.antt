use Rattle.std.proofs.Common.{◌≡◌, ◌<◌, true, Some, length, reverse}
use Rattle.idl_tree.specs.declared.trees.Body.{Body}
use Rattle.idl_compat.specs.Within.{bodies, leads_to_failure}
use Rattle.idl_compat.specs.Walks.{scopes_of, IsVisit}
use Rattle.idl_compat.proofs.walks.path.Given as goal

abbrev pub invariant-loop-earlier : goal.invariant-loop-earlier
invariant-loop-earlier l =
    record {
      within : l.at < length l.trail;
      leads : (body reads : Body) → IsVisit l.walk.from.now l.walk.to.now l.trail l.at body reads
          → leads_to_failure (scopes_of l.walk.from.now l.walk.to.now) (reverse l.backwards.items) (Some (bodies body reads)) ≡ true;
    }

abbrev pub decreases-loop-earlier : goal.decreases-loop-earlier
decreases-loop-earlier l = l.at
