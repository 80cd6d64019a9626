use Rattle.std.proofs.Common.{◌≡◌, ℕ, [], length}
use Rattle.idl_tree.specs.Marks.{users_at}
use Rattle.idl_tree.proofs.floats.no_users.Given as goal

abbrev pub invariant-loop-member : goal.invariant-loop-member
invariant-loop-member l =
    record {
      size : length l.users ≡ l._member-index;
      none : (p : ℕ) → users_at l.users p ≡ [];
    }
