-- What any calls of a `Frames`, one after another, give and leave.
use Rattle.std.specs.Prelude.{◌≡◌, ℕ, Bool, true, false, List, [], ◌∷◌, ◌++◌, take, if◌then◌else◌}
use Rattle.std.specs.List.{flat_map, list_any}
use Rattle.message_frame.specs.Pieces.{ended, pieces}
use Rattle.message_frame.specs.Held.{Held}
use Rattle.message_frame.specs.Steps.{Feeds, Gives, Clears}
use Rattle.message_frame.specs.declared.framing.Next.{Next}
use Rattle.message_frame.specs.declared.framing.Next.TheVariants.{Payload}

-- a call with its answer: `feed` of a piece took so many bytes, `next` gave this, `clear`
pub data Call : Type 0 where
  Feed : (piece : List ℕ) → (taken : ℕ) → Call
  Ask : (answer : Next) → Call
  Clear : Call

-- what the call does, as the clause of its method says
abbrev pub Step : Held → Call → Held → Type 0
Step old (Feed piece taken) new = Feeds old piece taken new
Step old (Ask answer) new = Gives old answer new
Step old Clear new = Clears old new

-- the calls lead, one after another, from the old state to the new one
abbrev pub Run : Held → List Call → Held → Type 0
Run old [] new = new ≡ old
Run old (call ∷ calls) new = (between : Held) × (Step old call between × Run between calls new)

abbrev pub is_clear : Call → Bool
is_clear Clear = true
is_clear _ = false

-- the calls after the last `clear`: all of them where there is none
abbrev pub since_clear : List Call → List Call
since_clear [] = []
since_clear (call ∷ calls) =
    if list_any is_clear (call ∷ calls) then since_clear calls else call ∷ calls

abbrev pub taken_by : Call → List ℕ
taken_by (Feed piece taken) = take taken piece
taken_by _ = []

abbrev pub given_by : Call → List (List ℕ)
given_by (Ask (Payload payload)) = payload.now ∷ []
given_by _ = []

-- the bytes that the calls took, and the payloads that they gave
abbrev pub bytes_taken : List Call → List ℕ
bytes_taken = flat_map taken_by

abbrev pub payloads_given : List Call → List (List ℕ)
payloads_given = flat_map given_by

-- the payloads given, each with its NUL, and then the rest are all bytes taken; so they are the
-- first payloads of the pieces of these bytes
pub record Accounts (calls : List Call) (rest : List ℕ) : Type 0 where
  pub all : flat_map ended (payloads_given calls) ++ rest ≡ bytes_taken calls
  pub first : payloads_given calls ++ (pieces rest).payloads ≡ (pieces (bytes_taken calls)).payloads

-- over every list of calls of a new `Frames`, nothing that it took since the beginning or the last
-- `clear` is lost, changed, repeated or given out of its order
abbrev pub NothingLost : Type 0
NothingLost =
    (limit : ℕ) (calls : List Call) (new : Held) →
    Run (record { limit = limit; bytes = [] }) calls new → Accounts (since_clear calls) new.bytes
