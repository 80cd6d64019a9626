-- What binds give, and which there were.
use Rattle.std.specs.Prelude.{◌≡◌, ◌≤◌, ℕ, List, [], ◌∷◌, ◌++◌, Option, Some, None, ⊤, IfSome, IsSomeAnd, option_map, Result, Ok, Err}
use Rattle.link_doors.specs.Visits.{Visit}
use Rattle.link_reach.specs.declared.deeds.DialFault.{DialFault}
use Rattle.link_reach.specs.declared.deeds.DialFault.TheVariants.{Failed, Memory}
use Rattle.door_binder.specs.declared.binders.Bind.{Bind}

-- the log, where it is told, has these binds more
abbrev pub Gains : Option (List Bind) → Option (List Bind) → List Bind → Type 0
Gains before now binds = now ≡ option_map (λ (log : List Bind). log ++ binds) before

-- what a bind puts into the log: one that failed stands there too, and want of memory puts nothing
abbrev pub tried : {T : Type 0} → Bind → Result T DialFault → List Bind
tried bind (Ok doors) = bind ∷ []
tried bind (Err Failed) = bind ∷ []
tried bind (Err Memory) = []

-- a door gave no connection, none was given back to it, and no accept of it failed
abbrev pub IsUnused : ℕ → ℕ → Option (List Visit) → Type 0
IsUnused given faults back = (given ≡ 0) × (faults ≡ 0) × IfSome back (λ visits. visits ≡ [])

-- a door gives at most so many connections, where that is said
abbrev pub IsWithin : Option ℕ → Option ℕ → Type 0
IsWithin None stated = ⊤
IsWithin (Some most) stated = IsSomeAnd stated (λ number. number ≤ most)
