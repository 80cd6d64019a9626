-- What a lent payload says of the `Frames` that lends it.
use Rattle.std.specs.Prelude.{⊤}
use Rattle.std.specs.Borrow.{Fml, MutBor, follows_so}
use Rattle.message_frame.specs.Held.{Held}
use Rattle.message_frame.specs.contracts.framing.Frames.{the_row}
use mathlib.Core.Option.{none}

-- once the payload is no longer used, the frames hold what P says
abbrev pub Leaves : MutBor Held → (Held → Type 0) → Fml
Leaves frames P = follows_so the_row the_row frames.ghost_name none (λ _ _. ⊤) P
