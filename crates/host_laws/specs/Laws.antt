-- What holds of every history that a service at several doors comes to.
use Rattle.std.specs.Prelude.{ℕ, ◌≤◌, List, All}
use Rattle.turn_desk.specs.declared.objects.Entry.{Entry}
use Rattle.typed_value.specs.Sizes.{levels_of}
use Rattle.sheet_form.specs.declared.sheets.Contents.{Contents}
use Rattle.service_core.specs.declared.requests.Request.{Request}
use Rattle.door_serving.specs.declared.doors.WorkerEnd.{WorkerEnd}
use Rattle.door_host.specs.Doors.{DoorKind}
use Rattle.door_host.specs.Hosts.{Hosted}

-- the text of a call nests 127 deep at most, and its parameters stand in it
abbrev pub most_levels : ℕ
most_levels = 126

abbrev pub IsShallow : Request → Type 0
IsShallow request = levels_of request.parameters ≤ most_levels

-- the parameters of each entry have at most so many levels
abbrev pub EntriesAreShallow : {D C : Type 0} → DoorKind D C → Type 0
EntriesAreShallow {D} {C} door = (sheet : Contents) (limit : ℕ) (history : List (Entry Request)) (before after : List D) (entries : ℕ) (ends : List WorkerEnd)
    → Hosted door sheet limit history before after entries ends
    → All (λ (entry : Entry Request). IsShallow entry.request) history
