use Rattle.std.proofs.Common.{◌≡◌, ℕ, ◌≤◌, length}
use Rattle.json.specs.Json.{members, value}
use Rattle.serde_json.specs.Data.{Members}
use Rattle.serde_json.specs.Read.{of_members, converted}
use Rattle.caller_form.specs.Kinds.{members_at}
use Rattle.caller_form.specs.HeadOf.{AreFound}
use Rattle.caller_form.proofs.members.find_members.Given as goal

abbrev pub invariant-members : goal.invariant-members
invariant-members l =
    (n : ℕ) × (old : Members) × (length l.reader ≤ n)
    × (members_at l.depth l.initial.reader ≡ converted (λ ms. of_members ms old) (members (value l.depth) n l.reader))
    × AreFound l.found old

abbrev pub decreases-members : goal.decreases-members
decreases-members l = length l.reader
