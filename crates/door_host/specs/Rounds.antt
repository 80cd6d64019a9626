-- How workers are seated at a desk, and leave it.
use Rattle.std.specs.Prelude.{◌≡◌, ℕ, ◌^◌, ◌<◌, ◌≤◌, List, [], ◌∷◌, ◌++◌, length, All}
use Rattle.turn_desk.specs.declared.objects.Entry.{Entry}
use Rattle.turn_desk.specs.Histories.{NoneOf, requests_of}
use Rattle.turn_desk.specs.Passes.{DeskView, PassView, IsOf, all_asks, carried}
use Rattle.turn_desk.specs.Turns.{total}
use Rattle.sheet_form.specs.declared.sheets.Contents.{Contents}
use Rattle.service_core.specs.declared.requests.Request.{Request}
use Rattle.service_core.specs.States.{State}
use Rattle.service_core.specs.Tells.{started}
use Rattle.service_desk.specs.Seats.{Seat}
use Rattle.door_serving.specs.declared.doors.WorkerEnd.{WorkerEnd}
use Rattle.door_serving.specs.Conversations.{GoesOn}
use Rattle.door_host.specs.declared.hosts.TheConstants.{PASS_ASKS}
use Rattle.door_host.specs.Doors.{DoorKind, Worked}
use Rattle.door_host.specs.Hosts.{AllServedOver, AreDistinct, IsNumbered, passes_of}

-- of each item of a list, the last one first
abbrev pub from_last : {A B : Type 0} → (A → B) → List A → List B
from_last f [] = []
from_last f (item ∷ items) = from_last f items ++ f item ∷ []

-- the desk was started with the registers of the service as they begin
abbrev pub IsBegun : Contents → DeskView State → Type 0
IsBegun sheet desk = desk.start ≡ started sheet

-- the first pass of a desk, by which nothing was asked
abbrev pub IsFirst : DeskView State → PassView State Request → Type 0
IsFirst desk pass = IsOf desk pass × (pass.number ≡ 0) × (pass.joined ≡ []) × (pass.seen ≡ [])

-- a seat at this desk with a pass that was split off the first one
pub record IsSeated (sheet : Contents) (desk : DeskView State) (seat : Seat) : Type 0 where
  pub sheet_is : seat.sheet ≡ sheet
  pub desk_is : seat.desk ≡ desk
  pub of_desk : IsOf desk seat.pass
  pub above : 0 < seat.pass.number
  pub below : seat.pass.number ≤ 2 ^ 62
  pub joined : seat.pass.joined ≡ []
  pub left : seat.pass.left ≡ PASS_ASKS
  pub asked : seat.pass.asked ≡ 0
  pub seen : seat.pass.seen ≡ []
  pub made : seat.made ≡ 0

-- a seat that has worked, which may leave
abbrev pub MayLeave : DeskView State → Seat → Type 0
MayLeave desk seat = IsOf desk seat.pass × (seat.pass.joined ≡ [])

-- the first pass of a desk, once the passes of workers were joined into it: it has all asks
pub record IsWhole (desk : DeskView State) (pass : PassView State Request) (numbers : List ℕ) : Type 0 where
  pub of_desk : IsOf desk pass
  pub asks : all_asks pass ≡ 2 ^ 62
  pub numbers_are : carried pass ≡ 0 ∷ numbers
  pub distinct : AreDistinct (0 ∷ numbers)
  pub none : NoneOf (0 ∷ []) pass.seen

-- each worker's own entries are counted
abbrev pub own_entries : List (Entry Request) → WorkerEnd → ℕ
own_entries history end = length (requests_of end.pass history)

-- all workers served their doors and left the desk, and the first pass has all asks
pub record Gathered {D C : Type 0} (door : DoorKind D C) (sheet : Contents) (desk : DeskView State) (before after : List D) (pass : PassView State Request) (entries : ℕ) (ends : List WorkerEnd) : Type 0 where
  pub whole : IsWhole desk pass (passes_of ends)
  pub numbered : All IsNumbered ends
  pub count : entries ≡ total (own_entries pass.seen) ends
  pub doors : AllServedOver door sheet desk.limit pass.seen before after ends
