-- What a command that needs the network finds and leaves, as far as it is told.
use Rattle.std.specs.Prelude.{◌≡◌, ℕ, List, Result, Err, Option, ⊤}
use Rattle.client_core.specs.Calls.{Side}
use Rattle.address_finding.specs.Finding.{Links}
use Rattle.varlink_command.specs.Ends.{Ends, Shelf}
use Rattle.host_command.specs.Ends.{Doors, HostEnds}
use Rattle.network_command.specs.declared.faults.NetworkFault.{NetworkFault}

-- the ends of every command, the links with the number of calls of the reach that failed, and the binder of doors
pub record NetworkEnds (D : Type 0) : Type 0 where
  pub desk : Ends
  pub links : Links
  pub link_faults : ℕ
  pub doors : Doors D

-- what calls work on: the links and the output, each with the count of its faults
pub record Work : Type 0 where
  pub links : Links
  pub link_faults : ℕ
  pub written : Option (List ℕ)
  pub write_faults : ℕ

abbrev pub work : {D : Type 0} → NetworkEnds D → Work
work ends = record {
  links = ends.links;
  link_faults = ends.link_faults;
  written = ends.desk.output.written;
  write_faults = ends.desk.output.write_faults;
}

-- what a call changes
abbrev pub side : Work → Side
side work = record { log = work.links.log; written = work.written; opened = work.links.opened; state = work.links.state }

-- what commands work on: what calls do, the files, and the binder of doors
pub record Scene (D : Type 0) : Type 0 where
  pub work : Work
  pub files : Shelf
  pub doors : Doors D

abbrev pub scene : {D : Type 0} → NetworkEnds D → Scene D
scene ends = record { work = work ends; files = ends.desk.files; doors = ends.doors }

-- what serving works on: the binder and the output, with the count of its faults
abbrev pub host_side : {D : Type 0} → Scene D → HostEnds D
host_side scene = record { doors = scene.doors; written = scene.work.written; write_faults = scene.work.write_faults }

-- nothing was done, for this reason
abbrev pub DoesNothing : {D : Type 0} → NetworkFault → Scene D → Scene D → Result ⊤ NetworkFault → Type 0
DoesNothing why before after outcome = (outcome ≡ Err why) × (after ≡ before)
