use Rattle.std.proofs.Common.{◌+◌, ◌*◌, ◌<◌, length}
use Rattle.caller_form.proofs.CompactLemmas.{CompletesItems, CompletesMembers}
use Rattle.caller_form.proofs.compact.+compact.Given as goal

abbrev pub decreases-take_value : goal.decreases-take_value
decreases-take_value l = 4 * l.depth + 1

abbrev pub decreases-take_object : goal.decreases-take_object
decreases-take_object l = 4 * l.depth

abbrev pub decreases-take_array : goal.decreases-take_array
decreases-take_array l = 4 * l.depth

abbrev pub decreases-take_member : goal.decreases-take_member
decreases-take_member l = 4 * l.depth + 2

abbrev pub decreases-take_items : goal.decreases-take_items
decreases-take_items l = 4 * l.depth + 3

abbrev pub decreases-take_members : goal.decreases-take_members
decreases-take_members l = 4 * l.depth + 3

abbrev pub invariant-take_items-items : goal.invariant-take_items-items
invariant-take_items-items l = (length l.left < length l.fn.text) × CompletesItems l.fn.depth l.fn.text l.left

abbrev pub decreases-take_items-items : goal.decreases-take_items-items
decreases-take_items-items l = length l.left

abbrev pub invariant-take_members-members : goal.invariant-take_members-members
invariant-take_members-members l = (length l.left < length l.fn.text) × CompletesMembers l.fn.depth l.fn.text l.left

abbrev pub decreases-take_members-members : goal.decreases-take_members-members
decreases-take_members-members l = length l.left
