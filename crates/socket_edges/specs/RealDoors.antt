-- Doors of the system.
use Rattle.std.specs.Prelude.{◌≡◌, ℕ, Option}
use Rattle.socket_edges.specs.declared.doors.RealDoor.{RealDoor}

-- a door that gives so many connections, or any number, and has given none. No accept of it failed
abbrev pub IsUnused : Option ℕ → RealDoor → Type 0
IsUnused stated door = (door.stated ≡ stated) × (door.given ≡ 0) × (door.faults.count ≡ 0)
