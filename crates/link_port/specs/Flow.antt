-- What the calls of sources and sinks do to the bytes that are left and to those that were written.
-- Bytes that an object does not tell are `None`.
use Rattle.std.specs.Prelude.{◌≡◌, ◌↔◌, ℕ, List, [], ◌++◌, take, IfSome, Result, MatchResult}
use Rattle.std.specs.declared.option.Option.{Option}
use Rattle.std.specs.Io.KnownBytes.{Appends, Consumes}

-- one side of an object stays as it was: the bytes that it tells, and the count of its faults
abbrev pub IsAsBefore : Option (List ℕ) → Option (List ℕ) → ℕ → ℕ → Type 0
IsAsBefore bytes bytes' faults faults' = (bytes' ≡ bytes) × (faults' ≡ faults)

-- a take put the next n bytes left into the front of `into`, and a failed one took nothing
abbrev pub TakesFront : {E : Type 0} → Option (List ℕ) → Option (List ℕ) → Result ℕ E → List ℕ → Type 0
TakesFront before now result into = MatchResult result (λ n. Consumes before now (take n into)) (λ _. now ≡ before)

-- a take gave no byte exactly where nothing was left
abbrev pub EndsWhereNothingIsLeft : {E : Type 0} → Option (List ℕ) → Result ℕ E → Type 0
EndsWhereNothingIsLeft before result = MatchResult result (λ n. IfSome before (λ bytes. (n ≡ 0) ↔ (bytes ≡ []))) (λ _. Unit {0})

-- a put appended the first n bytes of `piece`, and a failed one appended nothing
abbrev pub PutsFront : {E : Type 0} → Option (List ℕ) → Option (List ℕ) → Result ℕ E → List ℕ → Type 0
PutsFront before now result piece = MatchResult result (λ n. Appends before now (take n piece)) (λ _. now ≡ before)

-- a front of these bytes was appended
pub record AppendsFront (before now : Option (List ℕ)) (all : List ℕ) : Type 0 where
  pub front : List ℕ
  pub rest : List ℕ
  pub whole : all ≡ front ++ rest
  pub wrote : Appends before now front
