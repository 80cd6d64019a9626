use Rattle.std.proofs.Common.{◌≡◌, ℕ, ◌+◌, ◌*◌, ◌<◌, true, false, length}
use Rattle.idl_tree.specs.Marks.{has, is_marked, users_at, unmarked, Reached}
use Rattle.idl_tree.proofs.marks.mark_users.Given as goal

abbrev pub invariant-loop-place : goal.invariant-loop-place
invariant-loop-place l =
    record {
      size : length l.marks.items ≡ length l.initial.marks.items;
      kept : (i : ℕ) → is_marked l.initial.marks.items i ≡ true → is_marked l.marks.items i ≡ true;
      reached : (i : ℕ) → is_marked l.marks.items i ≡ true → Reached l.users l.initial.marks.items i;
      waiting : (i : ℕ) → has i l.taken.items ≡ true → is_marked l.marks.items i ≡ true;
      taken : (j i : ℕ) → is_marked l.marks.items j ≡ true → has j l.taken.items ≡ false → has i (users_at l.users j) ≡ true
          → i < length l.marks.items → is_marked l.marks.items i ≡ true;
    }

abbrev pub decreases-loop-place : goal.decreases-loop-place
decreases-loop-place l = 2 * unmarked l.marks.items + length l.taken.items
