-- What became of a door that a worker served.
use Rattle.std.specs.Prelude.{◌≡◌, ℕ, ◌+◌, List, Option}
use Rattle.link_doors.specs.Visits.{Visit}
use Rattle.service_desk.specs.Seats.{Seat}
use Rattle.door_serving.specs.declared.doors.WorkerEnd.{WorkerEnd}
use Rattle.door_serving.specs.Attended.{AttendsSeat, Ended, ServedDoor}

-- what doors of a kind tell of themselves, and what their connections tell
pub record DoorKind (D C : Type 0) : Type 0 where
  pub stated : D → Option ℕ
  pub given : D → ℕ
  pub faults : D → ℕ
  pub coming : D → Option (List C)
  pub back : D → Option (List Visit)
  pub left : C → Option (List ℕ)
  pub written : C → Option (List ℕ)

abbrev pub kind_of : {D C : Type 0} → (D → Option ℕ) → (D → ℕ) → (D → ℕ) → (D → Option (List C)) → (D → Option (List Visit)) → (C → Option (List ℕ)) → (C → Option (List ℕ)) → DoorKind D C
kind_of stated given faults coming back left written = record {
  stated = stated;
  given = given;
  faults = faults;
  coming = coming;
  back = back;
  left = left;
  written = written;
}

-- a worker served a door by a seat, which went from `first` to `last`, and came to this end
pub record Worked {D C : Type 0} (door : DoorKind D C) (first last : Seat) (before after : D) (end : WorkerEnd) : Type 0 where
  pub pass : end.pass ≡ first.pass.number
  pub stated : door.stated after ≡ door.stated before
  pub given : door.given after ≡ door.given before + end.connections
  pub ends : Ended end.listen_failed (door.stated after) (door.given after) (door.faults before) (door.faults after)
  pub serves : ServedDoor AttendsSeat door.left door.written first last (door.coming before) (door.coming after) (door.back before) (door.back after) end.connections
