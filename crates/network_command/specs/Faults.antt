-- The status that tells a fault, and the line that tells it. Numbers are decimal.
use Rattle.std.specs.Prelude.{ℕ, ⊤, List, ◌++◌, codes, decimal}
use Rattle.host_command.specs.Faults as host
use Rattle.network_command.specs.declared.faults.NetworkFault.{NetworkFault}
use Rattle.network_command.specs.declared.faults.NetworkFault.TheVariants as fault
use Rattle.network_command.specs.declared.fault_lines.Wording.{Wording}

abbrev pub status_of : NetworkFault → ℕ
status_of fault.BadWords = 1
status_of (fault.NotReply index) = 3
status_of (fault.Continues index) = 3
status_of (fault.Ended index) = 3
status_of (fault.TooLong index) = 3
status_of (fault.IllTyped index field) = 3
status_of fault.NoDescription = 3
status_of fault.BadResolver = 3
status_of (fault.ErrorReply name) = 4
status_of fault.LinkFault = 5
status_of fault.WriteFault = 6
status_of fault.Memory = 7
status_of fault.Long = 8
status_of (fault.NoAddress interface) = 9
status_of (fault.Hosting why) = host.status_of why

-- the number in the text; 0 where there is none
abbrev pub number_of : NetworkFault → ℕ
number_of (fault.NotReply index) = index
number_of (fault.Continues index) = index
number_of (fault.Ended index) = index
number_of (fault.TooLong index) = index
number_of (fault.IllTyped index field) = index
number_of _ = 0

-- what a line says of the reply of a number
abbrev pub reply_text : ℕ → List ℕ → List ℕ
reply_text index what = codes "reply " ++ decimal index ++ what

-- the text of a fault
abbrev pub fault_text : NetworkFault → List ℕ
fault_text fault.BadWords = codes "bad words"
fault_text (fault.NotReply index) = reply_text index (codes " is no reply")
fault_text (fault.Continues index) = reply_text index (codes " continues")
fault_text (fault.Ended index) = codes "ended before reply " ++ decimal index
fault_text (fault.TooLong index) = reply_text index (codes " is too long")
fault_text (fault.IllTyped index field) = reply_text index (codes " is ill typed at " ++ field)
fault_text fault.NoDescription = codes "no description"
fault_text fault.BadResolver = codes "bad resolver"
fault_text (fault.ErrorReply name) = codes "error " ++ name
fault_text (fault.NoAddress interface) = codes "no address of " ++ interface
fault_text fault.LinkFault = codes "link fault"
fault_text fault.WriteFault = codes "write fault"
fault_text fault.Long = codes "too many bytes"
fault_text fault.Memory = codes "out of memory"
fault_text (fault.Hosting why) = host.fault_text why

-- the fault is told by a text of its own
abbrev pub IsOwn : NetworkFault → Type 0
IsOwn (fault.Hosting why) = ⊥
IsOwn _ = ⊤

-- the line: the program's name, the text, and a line feed
abbrev pub fault_line : NetworkFault → List ℕ
fault_line fault = codes "varlink: " ++ fault_text fault ++ codes "\n"

-- a text in four parts
abbrev pub wording : Wording → List ℕ
wording text = text.before.now ++ text.number.now ++ text.between.now ++ text.name.now
