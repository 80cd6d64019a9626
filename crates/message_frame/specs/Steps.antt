-- What each call of a `Frames` does to the bytes held.
use Rattle.std.specs.Prelude.{◌≡◌, ℕ, ◌+◌, ◌-◌, ◌<◌, ◌≤◌, List, [], ◌++◌, length, take, min}
use Rattle.message_frame.specs.Pieces.{NoNul, ended}
use Rattle.message_frame.specs.Held.{Held}
use Rattle.message_frame.specs.declared.framing.Next.{Next}
use Rattle.message_frame.specs.declared.framing.Next.TheVariants.{Payload, TooLong, NeedMore}

-- `feed` took this many bytes of the piece, as many as there is room for, and holds them after
-- the others
pub record Feeds (old : Held) (piece : List ℕ) (taken : ℕ) (new : Held) : Type 0 where
  pub count : taken ≡ min (length piece) (old.limit + 1 - length old.bytes)
  pub after : new ≡ record old { bytes = old.bytes ++ take taken piece }

-- the old bytes begin with the whole message of this payload, and the new bytes are what follows it
pub record Begins (old payload new : List ℕ) : Type 0 where
  pub front : old ≡ ended payload ++ new
  pub no_nul : NoNul payload

-- `next` gave this answer: the payload before the first NUL held, which it dropped with its NUL;
-- where there is no NUL, whether more bytes are held than the limit. So exactly one of the three
-- answers is right for what is held
abbrev pub Gives : Held → Next → Held → Type 0
Gives old (Payload payload) new =
    Begins old.bytes payload.now new.bytes × (length payload.now ≤ old.limit) × (new.limit ≡ old.limit)
Gives old TooLong new = NoNul old.bytes × (old.limit < length old.bytes) × (new ≡ old)
Gives old NeedMore new = NoNul old.bytes × (length old.bytes ≤ old.limit) × (new ≡ old)

-- `clear` dropped all bytes held
abbrev pub Clears : Held → Held → Type 0
Clears old new = new ≡ record old { bytes = [] }
