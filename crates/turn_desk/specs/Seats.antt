-- How a seat of the table is a pass, and the table a desk.
use Rattle.std.specs.Prelude.{◌≡◌, ℕ, ◌+◌, ◌^◌, ◌≤◌, List, [], Option, Some}
use Rattle.std.specs.declared.snapshot.Snapshot.{Snapshot}
use Rattle.atomic_table.specs.Seated.{TableId}
use Rattle.atomic_table.specs.declared.shared.Seat.{Seat}
use Rattle.turn_desk.specs.declared.objects.Entry.{Entry}
use Rattle.turn_desk.specs.declared.views.Book.{Book}
use Rattle.turn_desk.specs.declared.views.Stage.TheVariants.{Idle}
use Rattle.turn_desk.specs.declared.views.View.{View}
use Rattle.turn_desk.specs.Passes.{DeskView, PassView}
use Rattle.turn_desk.specs.Turns.{history_in}

-- the table has the three words and the one slot
abbrev pub IsLaid : TableId → Type 0
IsLaid z = (z.words ≡ 3) × (z.slots ≡ 1)

abbrev pub desk_of : {O : Type 0} → TableId → Snapshot O → ℕ → DeskView O
desk_of z key limit = record { table = z; start = key.value; limit = limit }

module _ {O L R : Type 0} where
  abbrev pub pass_of : Seat (Option (Book O L R)) (View O R) → PassView O R
  pass_of s = record {
    table = s.table_id;
    start = s.me.0.start;
    number = s.me.0.number;
    joined = s.me.0.joined;
    left = s.me.0.left;
    asked = s.me.0.spent;
    seen = s.me.0.seen;
  }

  -- the seat is in no turn, holds nothing, and knows what the fields say
  pub record IsIdle (s : Seat (Option (Book O L R)) (View O R)) (number left asked : ℕ) : Type 0 where
    pub stage : s.me.0.stage ≡ Idle
    pub bare : s.me.1 ≡ []
    pub number_is : s.me.0.number ≡ number
    pub left_is : s.me.0.left ≡ left
    pub asked_is : s.me.0.spent ≡ asked
    pub few : left + asked ≤ 2 ^ 62
    pub low : number ≤ 2 ^ 62

  -- the seat is of this table, whose desk was started with this object
  abbrev pub IsSeatOf : TableId → Snapshot O → Seat (Option (Book O L R)) (View O R) → Type 0
  IsSeatOf z key s = (s.table_id ≡ z) × (s.me.0.start ≡ Some key.value)

  -- the history that the book had when the seat took it
  abbrev pub history_at : Seat (Option (Book O L R)) (View O R) → List (Entry R)
  history_at s = history_in s.me.0.stage

  -- the history that the pass of the seat has seen
  abbrev pub seen_by : Seat (Option (Book O L R)) (View O R) → List (Entry R)
  seen_by s = s.me.0.seen
