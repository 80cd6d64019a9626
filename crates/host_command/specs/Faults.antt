-- The status that tells a fault, and the line that tells it.
use Rattle.std.specs.Prelude.{ℕ, List, ◌++◌, codes}
use Rattle.resolver_core.specs.Registries as registry
use Rattle.varlink_command.specs.Faults as command
use Rattle.varlink_command.specs.FaultTexts as command_text
use Rattle.host_command.specs.declared.faults.HostFault.{HostFault}
use Rattle.host_command.specs.declared.faults.HostFault.TheVariants as fault

abbrev pub status_of : HostFault → ℕ
status_of (fault.File path why) = command.status_of why
status_of (fault.NoRegistry why) = 2
status_of fault.CannotBind = 5
status_of fault.CannotAccept = 5
status_of fault.WriteFault = 6
status_of fault.Memory = 7

-- the text of a fault
abbrev pub fault_text : HostFault → List ℕ
fault_text (fault.File path why) = command_text.fault_text path why
fault_text (fault.NoRegistry why) = registry.fault_text why
fault_text fault.CannotBind = codes "cannot bind"
fault_text fault.CannotAccept = codes "cannot accept"
fault_text fault.WriteFault = codes "write fault"
fault_text fault.Memory = codes "out of memory"

-- the line: the program's name, the text, and a line feed
abbrev pub fault_line : HostFault → List ℕ
fault_line fault = codes "varlink: " ++ fault_text fault ++ codes "\n"
