-- How many connections a door for one connection has given.
use Rattle.std.specs.Prelude.{ℕ, Option, Some, None}

-- the calls are there until the connection is given
abbrev pub given_of : {A : Type 0} → Option A → ℕ
given_of (Some calls) = 0
given_of None = 1
