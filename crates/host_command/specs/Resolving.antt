-- What the command `resolver` does.
use Rattle.std.specs.Prelude.{◌≡◌, ◌⊎◌, ℕ, Bool, List, IfSome, Result, Ok, Err, ⊤}
use Rattle.link_reach.specs.declared.deeds.DialFault.{DialFault}
use Rattle.resolver_core.specs.Registries.{Entries, registry_of}
use Rattle.resolver_core.specs.declared.faults.RegistryFault.{RegistryFault}
use Rattle.door_serving.specs.declared.doors.WorkerEnd.{WorkerEnd}
use Rattle.door_host.specs.Doors.{DoorKind}
use Rattle.door_host.specs.Resolvers.{AllResolved}
use Rattle.network_words.specs.declared.meanings.Serving.{Serving}
use Rattle.varlink_command.specs.declared.faults.Fault.{Fault}
use Rattle.varlink_command.specs.declared.faults.Which.TheVariants.{First}
use Rattle.varlink_command.specs.Definitions.{AsksOnce, FilesFault, ReadsFile}
use Rattle.varlink_command.specs.Ends.{Shelf}
use Rattle.host_command.specs.declared.faults.HostFault.{HostFault}
use Rattle.host_command.specs.declared.faults.HostFault.TheVariants as fault
use Rattle.host_command.specs.Ends.{Doors}
use Rattle.host_command.specs.Hosting.{BindsOnce, any_failed, bind_fault, outcome_of}

-- the most bytes that a registry's file may hold
abbrev pub registry_limit : ℕ
registry_limit = 1048576

-- the registry was served at these doors, of which these are left. Of some of them it is told that they failed
pub record ResolvedAt {D C : Type 0} (kind : DoorKind D C) (registry : Entries) (doors left : List D) (failed : Bool) : Type 0 where
  pub ends : List WorkerEnd
  pub resolved : AllResolved kind registry 0 doors left ends
  pub fails : failed ≡ any_failed ends

-- the doors were served and given back
pub record Resolved {D C : Type 0} (kind : DoorKind D C) (registry : Entries) (doors : List D) (after : Doors D) (outcome : Result ⊤ HostFault) : Type 0 where
  pub left : List D
  pub failed : Bool
  pub served : ResolvedAt kind registry doors left failed
  pub freed : IfSome after.freed (λ given. given ≡ left)
  pub comes : outcome ≡ outcome_of failed

-- memory was wanting before a connection was accepted: the doors were given back as they were
abbrev pub IsUnresolved : {D : Type 0} → List D → Doors D → Result ⊤ HostFault → Type 0
IsUnresolved doors after outcome = IfSome after.freed (λ given. given ≡ doors) × (outcome ≡ Err fault.Memory)

-- what became of the doors that a bind gave
abbrev pub BecomesOf : {D C : Type 0} → DoorKind D C → Entries → Doors D → Doors D → Result ⊤ HostFault → Result (List D) DialFault → Type 0
BecomesOf kind registry before after outcome (Ok doors) = Resolved kind registry doors after outcome ⊎ IsUnresolved doors after outcome
BecomesOf kind registry before after outcome (Err why) = (after.freed ≡ before.freed) × (outcome ≡ Err (bind_fault why))

-- a registry is served at the doors that one bind gives
abbrev pub ResolvesBound : {D C : Type 0} → DoorKind D C → Serving → Entries → Doors D → Doors D → Result ⊤ HostFault → Type 0
ResolvesBound kind what registry before after outcome = BindsOnce kind what (BecomesOf kind registry before after outcome) before after

-- nothing was bound, for this reason
abbrev pub BindsNothing : {D : Type 0} → HostFault → Doors D → Doors D → Result ⊤ HostFault → Type 0
BindsNothing why before after outcome = (after ≡ before) × (outcome ≡ Err why)

-- what a text is as a registry is served; what is none is told
abbrev pub ServesText : {D C : Type 0} → DoorKind D C → Serving → Result Entries RegistryFault → Doors D → Doors D → Result ⊤ HostFault → Type 0
ServesText kind what (Ok registry) before after outcome = ResolvesBound kind what registry before after outcome
ServesText kind what (Err why) before after outcome = BindsNothing (fault.NoRegistry why) before after outcome

-- the same, or memory is wanting before the bind
abbrev pub MayServeText : {D C : Type 0} → DoorKind D C → Serving → Result Entries RegistryFault → Doors D → Doors D → Result ⊤ HostFault → Type 0
MayServeText kind what there before after outcome = ServesText kind what there before after outcome ⊎ BindsNothing fault.Memory before after outcome

-- what was read of the file is served as a registry
abbrev pub ResolvesRead : {D C : Type 0} → DoorKind D C → Serving → Result (List ℕ) Fault → Doors D → Doors D → Result ⊤ HostFault → Type 0
ResolvesRead kind what (Ok text) before after outcome = MayServeText kind what (registry_of text) before after outcome
ResolvesRead kind what (Err why) before after outcome = BindsNothing (fault.File what.path why) before after outcome

-- the file of the words was read once, and the registry that it holds was served by the words, or it holds none
pub record ServesRegistry {D C : Type 0} (kind : DoorKind D C) (what : Serving) (files files' : Shelf) (before after : Doors D) (outcome : Result ⊤ HostFault) : Type 0 where
  pub read : Result (List ℕ) Fault
  pub reads : ReadsFile First registry_limit (files.holds what.path) read
  pub counted : FilesFault files.faults files'.faults read
  pub asked : AsksOnce files.paths files'.paths what.path
  pub serves : ResolvesRead kind what read before after outcome
