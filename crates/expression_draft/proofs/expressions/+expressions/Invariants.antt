use Rattle.std.proofs.Common.{◌≡◌, ◌≤◌, ◌+◌, ◌*◌}
use Rattle.serde_json.specs.Data.{depth, items_depth, members_depth}
use Rattle.expression_draft.specs.Expressions.{exprs_of, members_of}
use Rattle.expression_draft.proofs.Rests.{after, item_count, member_count}
use Rattle.expression_draft.proofs.expressions.+expressions.Given as goal

abbrev pub decreases-read_expr : goal.decreases-read_expr
decreases-read_expr l = 8 * depth l.value

abbrev pub decreases-expr_by : goal.decreases-expr_by
decreases-expr_by l = 8 * depth l.value + 6

abbrev pub decreases-read_struct : goal.decreases-read_struct
decreases-read_struct l = 8 * depth l.value + 5

abbrev pub decreases-read_list : goal.decreases-read_list
decreases-read_list l = 8 * depth l.value + 5

abbrev pub decreases-read_sum : goal.decreases-read_sum
decreases-read_sum l = 8 * depth l.value + 5

abbrev pub decreases-read_at : goal.decreases-read_at
decreases-read_at l = 8 * depth l.value + 5

abbrev pub decreases-two_exprs : goal.decreases-two_exprs
decreases-two_exprs l = 8 * depth l.value + 4

abbrev pub decreases-at_in : goal.decreases-at_in
decreases-at_in l = 8 * items_depth l.items + 3

abbrev pub decreases-two_in : goal.decreases-two_in
decreases-two_in l = 8 * items_depth l.items + 2

abbrev pub decreases-first_expr : goal.decreases-first_expr
decreases-first_expr l = 8 * items_depth l.items.now + 1

abbrev pub decreases-last_expr : goal.decreases-last_expr
decreases-last_expr l = 8 * items_depth l.items + 1

abbrev pub decreases-read_items : goal.decreases-read_items
decreases-read_items l = 8 * items_depth l.items + 1

abbrev pub decreases-read_members : goal.decreases-read_members
decreases-read_members l = 8 * members_depth l.members + 1

abbrev pub invariant-read_items-loop-value : goal.invariant-read_items-loop-value
invariant-read_items-loop-value l = record {
  left : after l.read (exprs_of l.items) ≡ exprs_of l.fn.items;
  within : items_depth l.items ≤ items_depth l.fn.items;
}

abbrev pub decreases-read_items-loop-value : goal.decreases-read_items-loop-value
decreases-read_items-loop-value l = item_count l.items

abbrev pub invariant-read_members-loop-name : goal.invariant-read_members-loop-name
invariant-read_members-loop-name l = record {
  left : after l.read (members_of l.members) ≡ members_of l.fn.members;
  within : members_depth l.members ≤ members_depth l.fn.members;
}

abbrev pub decreases-read_members-loop-name : goal.decreases-read_members-loop-name
decreases-read_members-loop-name l = member_count l.members
