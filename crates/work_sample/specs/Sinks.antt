-- A sink that grows, and what each of its calls does, exactly.
use Rattle.std.specs.Prelude.{◌≡◌, ℕ, Bool, List, ◌++◌, length, Result, MatchResult}
use Rattle.link_port.specs.Faults.{one_more}

pub record Growing : Type 0 where
  -- the bytes that were put
  pub written : List ℕ
  -- how many puts failed
  pub faults : ℕ
  pub finished : Bool

-- a put appends the whole piece, or it failed for want of memory
abbrev pub PutsGrowing : {E : Type 0} → Growing → List ℕ → Result ℕ E → Growing → Type 0
PutsGrowing old piece result new = MatchResult result
    (λ n. (n ≡ length piece) × (new ≡ record old { written = old.written ++ piece }))
    (λ _. new ≡ record old { faults = one_more old.faults })
