-- A binder in memory, and what each of its calls does, exactly.
use Rattle.std.specs.Prelude.{◌≡◌, ◌⊎◌, ◌<◌, ◌≤◌, true, false, List, [], ◌∷◌, ◌++◌, length, map, take, drop, Result, Ok, Err}
use Rattle.link_port.specs.Planned.{Calls, is_failing, after_call}
use Rattle.link_doors.specs.Doors.{DoorInMemory}
use Rattle.link_reach.specs.declared.deeds.DialFault.{DialFault}
use Rattle.link_reach.specs.declared.deeds.DialFault.TheVariants.{Failed, Memory}
use Rattle.door_binder.specs.declared.binders.Bind.{Bind}
use Rattle.door_binder.specs.BoundDoors.{cut}

pub record BinderInMemory : Type 0 where
  -- the doors that were not bound yet
  pub doors : List DoorInMemory
  -- the binds, failed ones among them
  pub binds : List Bind
  -- the doors last given back
  pub freed : List DoorInMemory
  -- its binds by number, and how many failed
  pub calls : Calls

-- behind a bind that failed, and stands in the log
abbrev pub after_fault : Bind → BinderInMemory → BinderInMemory
after_fault bind binder = record binder { binds = binder.binds ++ bind ∷ []; calls = after_call true binder.calls }

-- behind a bind that gave the first doors of those left
abbrev pub after_bind : Bind → BinderInMemory → BinderInMemory
after_bind bind binder = record {
  doors = drop bind.doors binder.doors;
  binds = binder.binds ++ bind ∷ [];
  freed = binder.freed;
  calls = after_call false binder.calls;
}

-- the doors that a bind gives: the first of those left, each cut to its connections
abbrev pub bound : Bind → List DoorInMemory → List DoorInMemory
bound bind doors = map (cut bind.connections) (take bind.doors doors)

-- a bind: it fails exactly where its number is listed or fewer doors are left
abbrev pub BindsInMemory : {V : Type 0} → (V → List DoorInMemory) → BinderInMemory → Bind → Result V DialFault → BinderInMemory → Type 0
BindsInMemory items old bind (Ok made) new = (is_failing old.calls ≡ false) × (bind.doors ≤ length old.doors)
    × (items made ≡ bound bind old.doors) × (new ≡ after_bind bind old)
BindsInMemory items old bind (Err Failed) new = ((is_failing old.calls ≡ true) ⊎ (length old.doors < bind.doors))
    × (new ≡ after_fault bind old)
BindsInMemory items old bind (Err Memory) new = new ≡ old
