-- What the command `resolve` does.
use Rattle.std.specs.Prelude.{◌≡◌, ℕ, List, ◌++◌, codes, Result, Ok, Err, Option, ⊤}
use Rattle.std.specs.Io.KnownBytes.{Appends}
use Rattle.link_port.specs.Faults.{Rises}
use Rattle.link_port.specs.Flow.{AppendsFront, IsAsBefore}
use Rattle.link_doors.specs.Addresses.{address_text}
use Rattle.link_doors.specs.declared.addresses.Address.{Address}
use Rattle.address_finding.specs.Finding.{Finds, CountsFaults}
use Rattle.address_finding.specs.declared.ends.ResolveEnd.{ResolveEnd}
use Rattle.network_command.specs.declared.faults.NetworkFault.{NetworkFault}
use Rattle.network_command.specs.declared.faults.NetworkFault.TheVariants as fault
use Rattle.network_command.specs.Ends.{Work}
use Rattle.network_command.specs.Outcomes.{no_address}

-- the address as a line
abbrev pub address_line : Address → List ℕ
address_line address = address_text address ++ codes "\n"

-- the line was put, or the output failed and a front of it was; where memory was wanting, nothing was
abbrev pub ShowsAddress : Address → Option (List ℕ) → Option (List ℕ) → ℕ → ℕ → Result ⊤ NetworkFault → Type 0
ShowsAddress address before now faults faults' (Ok done) = Appends before now (address_line address) × (faults' ≡ faults)
ShowsAddress address before now faults faults' (Err fault.WriteFault) =
    AppendsFront before now (address_line address) × Rises faults faults'
ShowsAddress address before now faults faults' (Err fault.Memory) = IsAsBefore before now faults faults'
ShowsAddress address before now faults faults' (Err why) = ⊥

-- an address that was told is shown; else nothing is, and the command comes to the end of the question
abbrev pub ShowsTold : List ℕ → Result Address ResolveEnd → Work → Work → Result ⊤ NetworkFault → Type 0
ShowsTold interface (Ok address) before after outcome =
    ShowsAddress address before.written after.written before.write_faults after.write_faults outcome
ShowsTold interface (Err end) before after outcome =
    IsAsBefore before.written after.written before.write_faults after.write_faults × (outcome ≡ Err (no_address interface end))

-- the resolver was asked once for the address of the interface, and what it told is shown
pub record Resolves (resolver : Address) (interface : List ℕ) (before after : Work) (outcome : Result ⊤ NetworkFault) : Type 0 where
  pub told : Result Address ResolveEnd
  pub finds : Finds resolver interface before.links after.links told
  pub link_faults : CountsFaults told before.link_faults after.link_faults
  pub shows : ShowsTold interface told before after outcome
