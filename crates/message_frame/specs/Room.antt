-- How a `Frames` keeps its bytes, and what it looks for.
use Rattle.std.specs.Prelude.{◌≡◌, ℕ, ◌+◌, ◌^◌, ◌<◌, ◌≤◌, List, ◌∷◌, take, drop, length, Option}
use Rattle.std.specs.Prelude.{None, Some, Vec, vec_len, vec_capacity}
use Rattle.std.specs.Global.{Global}
use Rattle.message_frame.specs.Pieces.{NoNul}

-- the room is that of the limit and one byte, and the first bytes held are known to have no NUL
pub record IsInRoom (limit : ℕ) (buffer : Vec ℕ Global) (start searched : ℕ) : Type 0 where
  pub least : 1 ≤ limit
  pub most : limit ≤ 2 ^ 30
  pub room : limit < vec_capacity buffer
  pub filled : vec_len buffer ≤ limit + 1
  pub within : start + searched ≤ vec_len buffer
  pub no_nul : NoNul (take searched (drop start buffer.items))

-- a NUL stands at this place, and none before it
pub record FirstNulAt (bytes : List ℕ) (place : ℕ) : Type 0 where
  pub within : place < length bytes
  pub before : NoNul (take place bytes)
  pub here : drop place bytes ≡ 0 ∷ drop (place + 1) bytes

-- the place of the first NUL, if there is one
abbrev pub FindsNul : List ℕ → Option ℕ → Type 0
FindsNul bytes None = NoNul bytes
FindsNul bytes (Some place) = FirstNulAt bytes place
