use Rattle.std.proofs.Common.{◌≡◌, ◌<◌, ◌||◌, ◌&&◌, ◌==◌, ℕ, length, take}
use Rattle.idl_tree.specs.Marks.{has, users_at}
use Rattle.idl_tree.proofs.floats.add_user.Given as goal

abbrev pub invariant-loop-place : goal.invariant-loop-place
invariant-loop-place l =
    record {
      size : length l.users.items ≡ length l.initial.users.items;
      added : (p i : ℕ) → p < length l.users.items → has i (users_at l.users.items p)
          ≡ (has i (users_at l.initial.users.items p) || (l.user == i && has p (take l.place-index l.places)));
    }
