-- What a session keeps true of its fields.
use Rattle.std.specs.Prelude.{ℕ, ◌+◌, ◌^◌, ◌≤◌, length}
use Rattle.message_frame.specs.Held.{Held}
use Rattle.session_core.specs.Limits.{most_bytes}

-- each message handled had a byte at least, and so had each byte held been taken
pub record IsCounted (index taken : ℕ) (held : Held) : Type 0 where
  pub counted : index + length held.bytes ≤ taken
  pub most : taken ≤ most_bytes
  pub room : length held.bytes ≤ held.limit + 1
  pub limit : held.limit ≤ 2 ^ 30
