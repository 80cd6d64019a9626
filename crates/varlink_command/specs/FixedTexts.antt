-- What the commands show that is the same at each run.
use Rattle.std.specs.Prelude.{◌≡◌, ℕ, List, codes, Result, Ok, Err, Option, ⊤}
use Rattle.std.specs.Io.KnownBytes.{Appends}
use Rattle.link_port.specs.Faults.{Rises}
use Rattle.link_port.specs.Flow.{AppendsFront}
use Rattle.varlink_command.specs.declared.faults.Fault.{Fault}
use Rattle.varlink_command.specs.declared.faults.Fault.TheVariants as fault
use Rattle.varlink_command.specs.Ends.{Ends}

-- the words of the commands, one a line
abbrev pub help_text : List ℕ
help_text = codes "check\nformat\nsheet\nsession\nwork\nhelp\nserve\nresolver\ncall\nresolve\ncompat\n"

-- what is shown where a definition can take another's place
abbrev pub compatible_text : List ℕ
compatible_text = codes "compatible\n"

-- the text was shown, or the output failed and a front of it was
abbrev pub IsShown : List ℕ → Option (List ℕ) → Option (List ℕ) → ℕ → ℕ → Result ⊤ Fault → Type 0
IsShown text before now faults faults' (Ok done) = Appends before now text × (faults' ≡ faults)
IsShown text before now faults faults' (Err fault.WriteFault) = AppendsFront before now text × Rises faults faults'
IsShown text before now faults faults' (Err why) = ⊥

-- a command shows this text
abbrev pub ShowsFixed : List ℕ → Ends → Ends → Result ⊤ Fault → Type 0
ShowsFixed text before after outcome =
    IsShown text before.output.written after.output.written before.output.write_faults after.output.write_faults outcome
