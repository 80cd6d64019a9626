-- How much room a line has left behind a piece of it.
use Rattle.std.specs.Prelude.{ℕ, ◌-◌, Bool, ◌&&◌, not, nat_le, Option, Some, None, if◌then◌else◌, length}
use Rattle.idl_rules.specs.Canon.{Layout}

-- the room behind so many bytes, where they fit and no note stands among them
abbrev pub room_left : Bool → ℕ → Option ℕ → Option ℕ
room_left noted size None = None
room_left noted size (Some room) = if not noted && nat_le size room then Some (room - size) else None

abbrev pub room_behind : Layout → Option ℕ → Option ℕ
room_behind layout room = room_left layout.noted (length layout.flat) room
