-- What becomes of a service that is served at several doors at once: there is one history.
use Rattle.std.specs.Prelude.{◌≡◌, ℕ, ◌^◌, ◌<◌, ◌≤◌, List, [], ◌∷◌, length, map, All, Contains, ⊤}
use Rattle.turn_desk.specs.declared.objects.Entry.{Entry}
use Rattle.turn_desk.specs.Histories.{state_of, AllGood, GoesOn}
use Rattle.sheet_form.specs.declared.sheets.Contents.{Contents}
use Rattle.service_core.specs.declared.requests.Request.{Request}
use Rattle.service_core.specs.States.{State}
use Rattle.service_core.specs.Tells.{started}
use Rattle.service_desk.specs.Boards.{IsGoodFor, state_after}
use Rattle.service_desk.specs.Seats.{Seat}
use Rattle.door_serving.specs.declared.doors.WorkerEnd.{WorkerEnd}
use Rattle.door_host.specs.declared.hosts.TheConstants.{PASS_ASKS}
use Rattle.door_host.specs.Doors.{DoorKind, Worked}

-- a seat of the service at the desk of this limit that was started with the registers as they begin. It has a pass of its own with all
-- its asks, which has seen nothing yet, and it has made no entry
pub record BeginsAt (sheet : Contents) (limit : ℕ) (seat : Seat) : Type 0 where
  pub sheet_is : seat.sheet ≡ sheet
  pub start : seat.desk.start ≡ started sheet
  pub limit_is : seat.desk.limit ≡ limit
  pub left : seat.pass.left ≡ PASS_ASKS
  pub asked : seat.pass.asked ≡ 0
  pub seen : seat.pass.seen ≡ []
  pub made : seat.made ≡ 0

-- a worker served a door by a seat of its own, and the one history goes on from what that has seen in the end, by entries
-- of other passes alone: what is said of the connections over what the seat has seen holds over the one history
pub record ServedOver {D C : Type 0} (door : DoorKind D C) (sheet : Contents) (limit : ℕ) (history : List (Entry Request)) (before after : D) (end : WorkerEnd) : Type 0 where
  pub first : Seat
  pub last : Seat
  pub begins : BeginsAt sheet limit first
  pub worked : Worked door first last before after end
  pub others : GoesOn last.pass.seen (end.pass ∷ []) history

-- so each door, by its place
abbrev pub AllServedOver : {D C : Type 0} → DoorKind D C → Contents → ℕ → List (Entry Request) → List D → List D → List WorkerEnd → Type 0
AllServedOver door sheet limit history [] [] [] = ⊤
AllServedOver door sheet limit history (before ∷ befores) (after ∷ afters) (end ∷ ends) =
    ServedOver door sheet limit history before after end × AllServedOver door sheet limit history befores afters ends
AllServedOver door sheet limit history _ _ _ = ⊥

-- no number stands twice
abbrev pub AreDistinct : List ℕ → Type 0
AreDistinct [] = ⊤
AreDistinct (number ∷ numbers) = (¬ Contains numbers number) × AreDistinct numbers

abbrev pub passes_of : List WorkerEnd → List ℕ
passes_of ends = map (λ (end : WorkerEnd). end.pass) ends

-- a pass of its own has a number above 0, which the first pass of the desk has
abbrev pub IsNumbered : WorkerEnd → Type 0
IsNumbered end = (0 < end.pass) × (end.pass ≤ 2 ^ 62)

-- The history of so many entries is made by workers that came to these ends: each entry by the pass of one of them, which
-- has a number of its own. Each served its door over this history
pub record Hosted {D C : Type 0} (door : DoorKind D C) (sheet : Contents) (limit : ℕ) (history : List (Entry Request)) (before after : List D) (entries : ℕ) (ends : List WorkerEnd) : Type 0 where
  pub count : entries ≡ length history
  pub owned : All (λ (entry : Entry Request). Contains (passes_of ends) entry.pass) history
  pub distinct : AreDistinct (passes_of ends)
  pub numbered : All IsNumbered ends
  pub doors : AllServedOver door sheet limit history before after ends

-- the board is in the state that the history leads to from the registers as they begin, by requests that are all good
pub record LeadsTo (sheet : Contents) (history : List (Entry Request)) (board : State) : Type 0 where
  pub state : board ≡ state_of state_after (started sheet) history
  pub good : AllGood IsGoodFor (started sheet) history

-- The doors of a service were served, and this board, this ledger and these ends are left: there is one history, for which
-- the ledger stands
pub record OneHistory {L D C : Type 0} (stands_for : L → List (Entry Request) → Type 0) (door : DoorKind D C) (sheet : Contents) (limit : ℕ) (before after : List D) (board : State) (ledger : L) (entries : ℕ) (ends : List WorkerEnd) : Type 0 where
  pub history : List (Entry Request)
  pub stands : stands_for ledger history
  pub leads : LeadsTo sheet history board
  pub hosted : Hosted door sheet limit history before after entries ends
