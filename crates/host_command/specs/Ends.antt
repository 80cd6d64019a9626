-- What a command that serves finds and leaves, as far as it is told.
use Rattle.std.specs.Prelude.{◌≡◌, ℕ, List, Option}
use Rattle.link_port.specs.Flow.{IsAsBefore}
use Rattle.door_binder.specs.declared.binders.Bind.{Bind}

-- a binder: its binds, how many of them failed, and the doors last given back
pub record Doors (D : Type 0) : Type 0 where
  pub binds : Option (List Bind)
  pub faults : ℕ
  pub freed : Option (List D)

-- the binder, and what was put to the output, with the count of its faults
pub record HostEnds (D : Type 0) : Type 0 where
  pub doors : Doors D
  pub written : Option (List ℕ)
  pub write_faults : ℕ

-- nothing was put
abbrev pub PutsNothing : {D : Type 0} → HostEnds D → HostEnds D → Type 0
PutsNothing before after = IsAsBefore before.written after.written before.write_faults after.write_faults
