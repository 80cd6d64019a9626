-- Which calls of an object in memory fail, and how much a call may move.
use Rattle.std.specs.Prelude.{ℕ, ◌==◌, Bool, List, [], ◌∷◌, max, min, if◌then◌else◌}
use Rattle.std.specs.List.{list_any}
use Rattle.link_port.specs.Faults.{one_more}

-- the calls of an object in memory
pub record Calls : Type 0 where
  -- the numbers of those that fail, where the first call has the number 0
  pub failing : List ℕ
  -- the number of the next call
  pub number : ℕ
  -- how many failed
  pub faults : ℕ

-- whether the next call is one of those that are to fail
abbrev pub is_failing : Calls → Bool
is_failing calls = list_any (λ number. number == calls.number) calls.failing

-- the calls after one more, which failed or did not
abbrev pub after_call : Bool → Calls → Calls
after_call failed calls = record { failing = calls.failing; number = one_more calls.number; faults = if failed then one_more calls.faults else calls.faults }

-- at most so many as the next of the greatest sizes, where 0 counts as 1; after the list no size is the greatest
abbrev pub limited : List ℕ → ℕ → ℕ
limited [] count = count
limited (size ∷ sizes) count = min (max size 1) count
