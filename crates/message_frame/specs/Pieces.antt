-- A stream of messages. Each message is its payload followed by one NUL byte (varlink.org, "Method
-- Call": a message is a JSON object, terminated by a single NUL byte).
use Rattle.std.specs.Prelude.{◌≡◌, ◌≢◌, ℕ, List, [], ◌∷◌, ◌++◌, ◌==◌, if◌then◌else◌}
use Rattle.std.specs.List.{AllByRecursion, flat_map}

-- no byte is NUL
abbrev pub NoNul : List ℕ → Type 0
NoNul = AllByRecursion (λ b. b ≢ 0)

-- a payload as it stands in the stream: with its NUL
abbrev pub ended : List ℕ → List ℕ
ended payload = payload ++ 0 ∷ []

-- the bytes are each payload with its NUL, in order, and then a rest; no NUL stands in any of them
pub record ArePieces (bytes : List ℕ) (payloads : List (List ℕ)) (rest : List ℕ) : Type 0 where
  pub whole : bytes ≡ flat_map ended payloads ++ rest
  pub each : AllByRecursion NoNul payloads
  pub open_end : NoNul rest

pub record Pieces : Type 0 where
  pub payloads : List (List ℕ)
  pub rest : List ℕ

-- the pieces of a stream that goes on with these, where a byte other than NUL comes first
abbrev pub led : ℕ → List (List ℕ) → List ℕ → Pieces
led b [] rest = record { payloads = []; rest = b ∷ rest }
led b (payload ∷ payloads) rest = record { payloads = (b ∷ payload) ∷ payloads; rest = rest }

-- the payloads of a stream, and the rest after the last NUL
unfoldable pub pieces : List ℕ → Pieces
pieces [] = record { payloads = []; rest = [] }
pieces (b ∷ bytes) =
    let later = pieces bytes in
    if b == 0 then record { payloads = [] ∷ later.payloads; rest = later.rest }
    else led b later.payloads later.rest

-- a stream is cut into pieces in one way: `pieces` are its pieces, and no others are
abbrev pub OneCut : Type 0
OneCut =
    (bytes : List ℕ) → ArePieces bytes (pieces bytes).payloads (pieces bytes).rest
    × ((payloads : List (List ℕ)) (rest : List ℕ) → ArePieces bytes payloads rest →
    (payloads ≡ (pieces bytes).payloads) × (rest ≡ (pieces bytes).rest))
