-- Counts of faults.
use Rattle.std.specs.Prelude.{ℕ, ◌+◌, ◌-◌, ◌^◌, ◌≤◌, min, max}

-- a count after one more: it never falls, and it stands still at the greatest 64-bit number
abbrev pub one_more : ℕ → ℕ
one_more count = max count (min (count + 1) (2 ^ 64 - 1))

-- a count rose: at least one more was counted
abbrev pub Rises : ℕ → ℕ → Type 0
Rises before now = one_more before ≤ now
