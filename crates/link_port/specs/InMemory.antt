-- What each call of the sources and sinks in memory does, exactly.
use Rattle.std.specs.Prelude.{◌≡◌, ◌⊎◌, ◌<◌, ◌-◌, ℕ, Bool, true, false, List, ◌++◌, length, take, drop, min, Result, MatchResult}
use Rattle.link_port.specs.Planned.{Calls, is_failing, after_call, limited}

-- a source in memory
pub record SourceInMemory : Type 0 where
  -- the bytes that are left
  pub left : List ℕ
  -- the greatest sizes of the next takes that do not fail
  pub sizes : List ℕ
  -- its takes
  pub calls : Calls

-- a sink in memory
pub record SinkInMemory : Type 0 where
  -- the bytes that were put
  pub written : List ℕ
  -- the greatest number of bytes that it holds
  pub room : ℕ
  -- the greatest sizes of the next puts that do not fail
  pub sizes : List ℕ
  -- its puts, flushes and finishes together
  pub calls : Calls
  -- whether a finish succeeded
  pub finished : Bool

-- a take that does not fail gives as many bytes as the size, `into` and what is left allow
abbrev pub take_count : SourceInMemory → List ℕ → ℕ
take_count source into = limited source.sizes (min (length into) (length source.left))

-- a take: it fails exactly where its number is listed, and then changes nothing but its calls
abbrev pub TakesInMemory : {E : Type 0} → SourceInMemory → List ℕ → Result ℕ E → SourceInMemory → List ℕ → Type 0
TakesInMemory old into result new into' = MatchResult result
    (λ n. (is_failing old.calls ≡ false) × (n ≡ take_count old into) × (into' ≡ take n old.left ++ drop n into)
    × (new ≡ record { left = drop n old.left; sizes = drop 1 old.sizes; calls = after_call false old.calls }))
    (λ _. (is_failing old.calls ≡ true) × (into' ≡ into) × (new ≡ record old { calls = after_call true old.calls }))

-- a put that does not fail appends as many bytes as the size, the piece and the room that is left allow
abbrev pub put_count : SinkInMemory → List ℕ → ℕ
put_count sink piece = limited sink.sizes (min (length piece) (sink.room - length sink.written))

-- a put: it fails exactly where its number is listed or the room is full, and then changes nothing but its calls
abbrev pub PutsInMemory : {E : Type 0} → SinkInMemory → List ℕ → Result ℕ E → SinkInMemory → Type 0
PutsInMemory old piece result new = MatchResult result
    (λ n. (is_failing old.calls ≡ false) × (length old.written < old.room) × (n ≡ put_count old piece)
    × (new ≡ record old { written = old.written ++ take n piece; sizes = drop 1 old.sizes; calls = after_call false old.calls }))
    (λ _. ((is_failing old.calls ≡ true) ⊎ (length old.written ≡ old.room)) × (new ≡ record old { calls = after_call true old.calls }))

-- a flush: it fails exactly where its number is listed, and changes nothing but its calls
abbrev pub FlushesInMemory : {T E : Type 0} → SinkInMemory → Result T E → SinkInMemory → Type 0
FlushesInMemory old result new = MatchResult result
    (λ _. (is_failing old.calls ≡ false) × (new ≡ record old { calls = after_call false old.calls }))
    (λ _. (is_failing old.calls ≡ true) × (new ≡ record old { calls = after_call true old.calls }))

-- a finish: it fails exactly where its number is listed, and then changes nothing but its calls
abbrev pub FinishesInMemory : {T E : Type 0} → SinkInMemory → Result T E → SinkInMemory → Type 0
FinishesInMemory old result new = MatchResult result
    (λ _. (is_failing old.calls ≡ false) × (new ≡ record old { calls = after_call false old.calls; finished = true }))
    (λ _. (is_failing old.calls ≡ true) × (new ≡ record old { calls = after_call true old.calls }))
