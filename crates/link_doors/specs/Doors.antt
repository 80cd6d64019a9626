-- A door in memory.
use Rattle.std.specs.Prelude.{◌≡◌, ℕ, ◌+◌, List, [], ◌∷◌, Option, Some, Result, MatchResult, MatchOption}
use Rattle.link_doors.specs.declared.returned.Returned.{Returned}
use Rattle.link_doors.specs.Connections.{ConnInMemory}
use Rattle.link_doors.specs.Visits.{Visit, visit_of}

-- a door in memory: the connections still to come, how many it gave, and those given back
pub record DoorInMemory : Type 0 where
  pub coming : List ConnInMemory
  pub given : ℕ
  pub back : List Returned

-- what became of one given back
abbrev pub visit_back : Returned → Visit
visit_back returned = visit_of (Some returned.conn.source.left) (Some returned.conn.sink.written) returned.leave returned.entries

-- an accept: it gives the first connection to come, where there is one, and never fails
abbrev pub AcceptsInMemory : {E : Type 0} → DoorInMemory → Result (Option ConnInMemory) E → DoorInMemory → Type 0
AcceptsInMemory old result new = MatchResult result
    (λ conn. MatchOption conn ((old.coming ≡ []) × (new ≡ old))
    (λ c. (old.coming ≡ c ∷ new.coming) × (new.given ≡ old.given + 1) × (new.back ≡ old.back)))
    (λ _. ⊥)
