-- The numbers of a session.
use Rattle.std.specs.Prelude.{ℕ, ◌^◌}

-- a session takes at most so many bytes
abbrev pub most_bytes : ℕ
most_bytes = 2 ^ 40
