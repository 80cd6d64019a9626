-- What becomes of a registry that is served at several doors at once.
use Rattle.std.specs.Prelude.{◌≡◌, ℕ, ◌+◌, List, [], ◌∷◌, ⊤}
use Rattle.resolver_core.specs.Registries.{Entries}
use Rattle.door_serving.specs.declared.doors.WorkerEnd.{WorkerEnd}
use Rattle.door_serving.specs.Attended.{Ended, ServedDoor}
use Rattle.door_serving.specs.Resolving.{AttendsRegistry}
use Rattle.door_host.specs.Doors.{DoorKind}

-- the worker of a number served a door by the registry, and came to this end
pub record ResolvedBy {D C : Type 0} (door : DoorKind D C) (registry : Entries) (number : ℕ) (before after : D) (end : WorkerEnd) : Type 0 where
  pub worker : end.pass ≡ number
  pub stated : door.stated after ≡ door.stated before
  pub given : door.given after ≡ door.given before + end.connections
  pub ends : Ended end.listen_failed (door.stated after) (door.given after) (door.faults before) (door.faults after)
  pub serves : ServedDoor AttendsRegistry door.left door.written registry registry (door.coming before) (door.coming after) (door.back before) (door.back after) end.connections

-- so each door, by its place: its workers are numbered from this one on
abbrev pub AllResolved : {D C : Type 0} → DoorKind D C → Entries → ℕ → List D → List D → List WorkerEnd → Type 0
AllResolved door registry number [] [] [] = ⊤
AllResolved door registry number (before ∷ befores) (after ∷ afters) (end ∷ ends) =
    ResolvedBy door registry number before after end × AllResolved door registry (number + 1) befores afters ends
AllResolved door registry number _ _ _ = ⊥
