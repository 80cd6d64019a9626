use Rattle.std.proofs.Common.{length}
use Rattle.serde_json.specs.Data.{Members}
use Rattle.caller_form.specs.Compact.{AreBare}
use Rattle.caller_form.proofs.CompactLemmas.{Completes}
use Rattle.caller_form.proofs.compact.take_reply.Given as goal

abbrev pub invariant-members : goal.invariant-members
invariant-members l = (before : Members) × AreBare l.continues before × Completes l.fn.depth l.fn.text l.left before

abbrev pub decreases-members : goal.decreases-members
decreases-members l = length l.left
