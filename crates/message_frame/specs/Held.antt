-- What contracts see of a `Frames`.
use Rattle.std.specs.Prelude.{ℕ, List}

-- the greatest length of a payload, and the bytes held, the oldest first
pub record Held : Type 0 where
  pub limit : ℕ
  pub bytes : List ℕ
