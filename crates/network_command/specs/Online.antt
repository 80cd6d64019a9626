-- What the top call of the commands that need the network does.
use Rattle.std.specs.Prelude.{◌≡◌, ◌⊎◌, ℕ, Bool, true, false, List, Option, Some, None, Result, Ok, Err, ⊤}
use Rattle.door_host.specs.Doors.{DoorKind}
use Rattle.network_words.specs.Meanings.{network}
use Rattle.network_words.specs.declared.meanings.Network.{Network}
use Rattle.network_words.specs.declared.meanings.Network.TheVariants as net
use Rattle.varlink_command.specs.Ends.{Object, PutsNothing}
use Rattle.varlink_command.specs.Offline.{TellsLine}
use Rattle.network_command.specs.declared.faults.NetworkFault.{NetworkFault}
use Rattle.network_command.specs.declared.faults.NetworkFault.TheVariants.{BadWords, Memory}
use Rattle.network_command.specs.Calling.{Calls}
use Rattle.network_command.specs.Ends.{NetworkEnds, Scene, scene, DoesNothing}
use Rattle.network_command.specs.Faults.{status_of, fault_line}
use Rattle.network_command.specs.Resolving.{Resolves}
use Rattle.network_command.specs.Serving.{Serves, ServesRegistry}

-- what a command did, and what it came to. Bridges are not run yet: their words are bad words
abbrev pub RanCommand : {D C : Type 0} → DoorKind D C → Network → Scene D → Scene D → Result ⊤ NetworkFault → Type 0
-- `call WAY [--typed] METHOD PARAMETERS`: the call by that way
RanCommand kind (net.Call by call typed) before after outcome = Calls by call typed before.work after.work outcome
-- `resolve --resolver ADDRESS INTERFACE`: the address that the resolver tells, as a line
RanCommand kind (net.Resolve resolver interface) before after outcome = Resolves resolver interface before.work after.work outcome
-- `serve ADDRESS PATH`: the service of the sheet in that file at doors of that address
RanCommand kind (net.Serve what forgets) before after outcome = Serves kind what forgets before after outcome
-- `resolver ADDRESS PATH`: the registry in that file at doors of that address
RanCommand kind (net.Resolver what) before after outcome = ServesRegistry kind what before after outcome
RanCommand kind (net.Bridge target) before after outcome = DoesNothing BadWords before after outcome

-- words that mean no command are bad words
abbrev pub Ran : {D C : Type 0} → DoorKind D C → Option Network → Scene D → Scene D → Result ⊤ NetworkFault → Type 0
Ran kind None before after outcome = DoesNothing BadWords before after outcome
Ran kind (Some command) before after outcome = RanCommand kind command before after outcome

-- the words mean no command, or one that is not run yet
abbrev pub is_refused : Option Network → Bool
is_refused (Some (net.Call by call typed)) = false
is_refused (Some (net.Resolve resolver interface)) = false
is_refused (Some (net.Serve what forgets)) = false
is_refused (Some (net.Resolver what)) = false
is_refused (Some (net.Bridge target)) = true
is_refused None = true

-- the words mean a command that serves
abbrev pub is_serving : Option Network → Bool
is_serving (Some (net.Call by call typed)) = false
is_serving (Some (net.Resolve resolver interface)) = false
is_serving (Some (net.Serve what forgets)) = true
is_serving (Some (net.Resolver what)) = true
is_serving (Some (net.Bridge target)) = false
is_serving None = false

-- the command of these words ran, or memory was wanting before they were understood
abbrev pub RanWords : {D C : Type 0} → DoorKind D C → List (List ℕ) → Scene D → Scene D → Result ⊤ NetworkFault → Type 0
RanWords kind words before after outcome = Ran kind (network words) before after outcome ⊎ DoesNothing Memory before after outcome

-- a command that did all has status 0 and tells nothing; else it has the status of its fault, and tells it by one line
abbrev pub Concludes : Result ⊤ NetworkFault → Object → Object → ℕ → Type 0
Concludes (Ok done) before after status = PutsNothing before after × (status ≡ 0)
Concludes (Err why) before after status = TellsLine (fault_line why) before after × (status ≡ status_of why)

-- the command that these words mean ran, and its fault was told
pub record Runs {D C : Type 0} (kind : DoorKind D C) (words : List (List ℕ)) (before after : NetworkEnds D) (status : ℕ) : Type 0 where
  pub outcome : Result ⊤ NetworkFault
  pub ran : RanWords kind words (scene before) (scene after) outcome
  pub told : Concludes outcome before.desk.faults after.desk.faults status
