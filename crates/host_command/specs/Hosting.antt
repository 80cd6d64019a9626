-- What the command `serve` does.
use Rattle.std.specs.Prelude.{◌≡◌, ◌⊎◌, ℕ, Bool, true, false, List, ◌++◌, codes, decimal, length, All, IfSome, Result, Ok, Err, Option, ⊤}
use Rattle.std.specs.List.{list_any}
use Rattle.std.specs.Io.KnownBytes.{Appends}
use Rattle.link_port.specs.Faults.{Rises}
use Rattle.link_port.specs.Flow.{AppendsFront}
use Rattle.link_reach.specs.Deeds.{CountsFault}
use Rattle.link_reach.specs.declared.deeds.DialFault.{DialFault}
use Rattle.link_reach.specs.declared.deeds.DialFault.TheVariants as dial
use Rattle.turn_desk.specs.declared.objects.Entry.{Entry}
use Rattle.sheet_form.specs.declared.sheets.Contents.{Contents}
use Rattle.service_core.specs.declared.requests.Request.{Request}
use Rattle.service_core.specs.States.{State}
use Rattle.door_serving.specs.declared.doors.WorkerEnd.{WorkerEnd}
use Rattle.door_host.specs.Doors.{DoorKind}
use Rattle.door_host.specs.Hosts.{Hosted, LeadsTo}
use Rattle.door_host.specs.declared.hosts.TheConstants.{FORGOTTEN_LIMIT, HISTORY_LIMIT}
use Rattle.door_binder.specs.Binds.{Gains, tried, IsUnused, IsWithin}
use Rattle.network_words.specs.declared.meanings.Serving.{Serving}
use Rattle.varlink_command.specs.declared.faults.Fault.{Fault}
use Rattle.varlink_command.specs.Definitions.{AsksOnce, FilesFault}
use Rattle.varlink_command.specs.Ends.{Shelf}
use Rattle.varlink_command.specs.Sheets.{ReadsSheet}
use Rattle.host_command.specs.declared.faults.HostFault.{HostFault}
use Rattle.host_command.specs.declared.faults.HostFault.TheVariants as fault
use Rattle.host_command.specs.Ends.{Doors, HostEnds, PutsNothing}

-- nothing was bound or put, for this reason
pub record DoesNothing {D : Type 0} (why : HostFault) (before after : HostEnds D) (outcome : Result ⊤ HostFault) : Type 0 where
  pub doors : after.doors ≡ before.doors
  pub output : PutsNothing before after
  pub comes : outcome ≡ Err why

-- ---- the end of a service

-- the line that tells how many entries the history has
abbrev pub entries_line : ℕ → List ℕ
entries_line entries = codes "entries " ++ decimal entries ++ codes "\n"

-- the door of one of the workers failed
abbrev pub any_failed : List WorkerEnd → Bool
any_failed ends = list_any (λ (end : WorkerEnd). end.listen_failed) ends

-- what a command comes to once its doors were served
abbrev pub outcome_of : Bool → Result ⊤ HostFault
outcome_of true = Err fault.CannotAccept
outcome_of false = Ok tt

-- the number of entries was put as a line, or the output failed and a front of the line was put
abbrev pub ShowsEntries : ℕ → Bool → Option (List ℕ) → Option (List ℕ) → ℕ → ℕ → Result ⊤ HostFault → Type 0
ShowsEntries entries failed before now faults faults' (Err fault.WriteFault) =
    AppendsFront before now (entries_line entries) × Rises faults faults'
ShowsEntries entries failed before now faults faults' outcome =
    Appends before now (entries_line entries) × (faults' ≡ faults) × (outcome ≡ outcome_of failed)

-- ---- doors are bound

-- the doors that a bind gave: as many as there are workers, none of them used, each for so many connections at most
pub record AreBound {D C : Type 0} (kind : DoorKind D C) (what : Serving) (doors : List D) : Type 0 where
  pub count : length doors ≡ what.workers
  pub unused : All (λ door. IsUnused (kind.given door) (kind.faults door) (kind.back door)) doors
  pub within : All (λ door. IsWithin what.connections (kind.stated door)) doors

abbrev pub Bound : {D C : Type 0} → DoorKind D C → Serving → Result (List D) DialFault → Type 0
Bound kind what (Ok doors) = AreBound kind what doors
Bound kind what (Err why) = ⊤

-- there was one bind, by the words, and this became of what it gave
pub record BindsOnce {D C : Type 0} (kind : DoorKind D C) (what : Serving) (Becomes : Result (List D) DialFault → Type 0) (before after : Doors D) : Type 0 where
  pub bound : Result (List D) DialFault
  pub doors : Bound kind what bound
  pub log : Gains before.binds after.binds (tried (record { address = what.address; doors = what.workers; connections = what.connections }) bound)
  pub faults : CountsFault before.faults after.faults bound
  pub becomes : Becomes bound

-- what a command comes to that no doors were bound for
abbrev pub bind_fault : DialFault → HostFault
bind_fault dial.Failed = fault.CannotBind
bind_fault dial.Memory = fault.Memory

-- ---- doors are served

-- what the history may weigh, where it is not kept and where it is
abbrev pub limit_of : Bool → ℕ
limit_of true = FORGOTTEN_LIMIT
limit_of false = HISTORY_LIMIT

-- there is one history of so many entries, which led to a board: it was made at these doors, of which these are left. Of
-- some of them it is told that they failed
pub record ServedBy {D C : Type 0} (kind : DoorKind D C) (sheet : Contents) (limit : ℕ) (doors left : List D) (entries : ℕ) (failed : Bool) : Type 0 where
  pub board : State
  pub history : List (Entry Request)
  pub ends : List WorkerEnd
  pub leads : LeadsTo sheet history board
  pub hosted : Hosted kind sheet limit history doors left entries ends
  pub fails : failed ≡ any_failed ends

-- the doors were served and given back, and the number of entries was put as a line
pub record ServedAt {D C : Type 0} (kind : DoorKind D C) (sheet : Contents) (limit : ℕ) (doors : List D) (before after : HostEnds D) (outcome : Result ⊤ HostFault) : Type 0 where
  pub left : List D
  pub entries : ℕ
  pub failed : Bool
  pub served : ServedBy kind sheet limit doors left entries failed
  pub freed : IfSome after.doors.freed (λ given. given ≡ left)
  pub shows : ShowsEntries entries failed before.written after.written before.write_faults after.write_faults outcome

-- memory was wanting before a connection was accepted: the doors were given back as they were
pub record IsUnserved {D : Type 0} (doors : List D) (before after : HostEnds D) (outcome : Result ⊤ HostFault) : Type 0 where
  pub freed : IfSome after.doors.freed (λ given. given ≡ doors)
  pub output : PutsNothing before after
  pub comes : outcome ≡ Err fault.Memory

-- there were no doors
pub record IsUnbound {D : Type 0} (why : DialFault) (before after : HostEnds D) (outcome : Result ⊤ HostFault) : Type 0 where
  pub freed : after.doors.freed ≡ before.doors.freed
  pub output : PutsNothing before after
  pub comes : outcome ≡ Err (bind_fault why)

-- what became of the doors that a bind gave
abbrev pub BecomesOf : {D C : Type 0} → DoorKind D C → Contents → ℕ → HostEnds D → HostEnds D → Result ⊤ HostFault → Result (List D) DialFault → Type 0
BecomesOf kind sheet limit before after outcome (Ok doors) = ServedAt kind sheet limit doors before after outcome ⊎ IsUnserved doors before after outcome
BecomesOf kind sheet limit before after outcome (Err why) = IsUnbound why before after outcome

-- a sheet is served at the doors that one bind gives
abbrev pub ServesBound : {D C : Type 0} → DoorKind D C → Serving → Contents → ℕ → HostEnds D → HostEnds D → Result ⊤ HostFault → Type 0
ServesBound kind what sheet limit before after outcome = BindsOnce kind what (BecomesOf kind sheet limit before after outcome) before.doors after.doors

-- ---- the command

-- what was read of the file as a sheet is served, or memory is wanting before the bind; what is no sheet is told
abbrev pub ServesRead : {D C : Type 0} → DoorKind D C → Serving → Bool → Result Contents Fault → HostEnds D → HostEnds D → Result ⊤ HostFault → Type 0
ServesRead kind what forgets (Ok sheet) before after outcome = ServesBound kind what sheet (limit_of forgets) before after outcome ⊎ DoesNothing fault.Memory before after outcome
ServesRead kind what forgets (Err why) before after outcome = DoesNothing (fault.File what.path why) before after outcome

-- the file of the words was read once, and the sheet that it holds was served by the words, or it holds none; the history is
-- kept, or forgotten
pub record Serves {D C : Type 0} (kind : DoorKind D C) (what : Serving) (forgets : Bool) (files files' : Shelf) (before after : HostEnds D) (outcome : Result ⊤ HostFault) : Type 0 where
  pub read : Result Contents Fault
  pub reads : ReadsSheet (files.holds what.path) read
  pub counted : FilesFault files.faults files'.faults read
  pub asked : AsksOnce files.paths files'.paths what.path
  pub serves : ServesRead kind what forgets read before after outcome
