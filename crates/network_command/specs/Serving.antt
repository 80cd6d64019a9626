-- What the commands `serve` and `resolver` do.
use Rattle.std.specs.Prelude.{◌≡◌, Bool, Result, Ok, Err, ⊤}
use Rattle.door_host.specs.Doors.{DoorKind}
use Rattle.network_words.specs.declared.meanings.Serving.{Serving}
use Rattle.host_command.specs.declared.faults.HostFault.{HostFault}
use Rattle.host_command.specs.Hosting as hosting
use Rattle.host_command.specs.Resolving as resolving
use Rattle.network_command.specs.declared.faults.NetworkFault.{NetworkFault}
use Rattle.network_command.specs.declared.faults.NetworkFault.TheVariants as fault
use Rattle.network_command.specs.Ends.{Scene, host_side}

-- what a command comes to that serves
abbrev pub host_outcome : Result ⊤ HostFault → Result ⊤ NetworkFault
host_outcome (Ok done) = Ok tt
host_outcome (Err why) = Err (fault.Hosting why)

-- the sheet in a file was served by these words, with a history that is kept, or forgotten
pub record Serves {D C : Type 0} (kind : DoorKind D C) (what : Serving) (forgets : Bool) (before after : Scene D) (outcome : Result ⊤ NetworkFault) : Type 0 where
  pub end : Result ⊤ HostFault
  pub serves : hosting.Serves kind what forgets before.files after.files (host_side before) (host_side after) end
  pub comes : outcome ≡ host_outcome end

-- the registry in a file was served by these words, and nothing was put to the output
pub record ServesRegistry {D C : Type 0} (kind : DoorKind D C) (what : Serving) (before after : Scene D) (outcome : Result ⊤ NetworkFault) : Type 0 where
  pub end : Result ⊤ HostFault
  pub serves : resolving.ServesRegistry kind what before.files after.files before.doors after.doors end
  pub output : after.work ≡ before.work
  pub comes : outcome ≡ host_outcome end
