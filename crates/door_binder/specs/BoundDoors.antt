-- A door in memory of which no more connections are given than was said.
use Rattle.std.specs.Prelude.{◌≡◌, ℕ, List, [], take, Option, Some, None}
use Rattle.link_doors.specs.Doors.{DoorInMemory}

-- the first so many, where that is said
abbrev pub upto : {T : Type 0} → Option ℕ → List T → List T
upto None xs = xs
upto (Some n) xs = take n xs

-- a door that gives the first so many of its connections to come; the rest are dropped
abbrev pub cut : Option ℕ → DoorInMemory → DoorInMemory
cut most door = record { coming = upto most door.coming; given = door.given; back = door.back }

-- it gave no connection, and none was given back to it
abbrev pub IsFresh : DoorInMemory → Type 0
IsFresh door = (door.given ≡ 0) × (door.back ≡ [])
