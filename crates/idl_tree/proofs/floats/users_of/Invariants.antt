use Rattle.std.proofs.Common.{◌≡◌, ◌<◌, ℕ, length, take}
use Rattle.idl_tree.specs.Floats.{places_of, used_at}
use Rattle.idl_tree.specs.Marks.{has, users_at}
use Rattle.idl_tree.proofs.floats.users_of.Given as goal

abbrev pub invariant-loop-place : goal.invariant-loop-place
invariant-loop-place l =
    record {
      size : length l.users.items ≡ length l.members;
      told : (p i : ℕ) → p < length l.users.items → has i (users_at l.users.items p) ≡ has p (places_of l.index (used_at (take l.place l.members) i));
    }
