use Rattle.std.proofs.Common.{◌≡◌, ℕ, true, take}
use Rattle.idl_tree.specs.Marks.{has, is_marked}
use Rattle.idl_tree.proofs.marks.marked_places.Given as goal

abbrev pub invariant-loop-place : goal.invariant-loop-place
invariant-loop-place l =
    record {
      all : (i : ℕ) → is_marked (take l.place l.marks) i ≡ true → has i l.places.items ≡ true;
      only : (i : ℕ) → has i l.places.items ≡ true → is_marked l.marks i ≡ true;
    }
