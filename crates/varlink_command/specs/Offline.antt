-- What each command does, and how its fault is told.
use Rattle.std.specs.Prelude.{◌≡◌, ℕ, ◌⊎◌, List, Option, Some, None, Result, Ok, Err, ⊤}
use Rattle.std.specs.Io.KnownBytes.{Appends}
use Rattle.link_port.specs.Faults.{Rises}
use Rattle.link_port.specs.Flow.{AppendsFront}
use Rattle.varlink_command.specs.declared.faults.Fault.{Fault}
use Rattle.varlink_command.specs.declared.faults.Fault.TheVariants as fault
use Rattle.varlink_command.specs.declared.faults.Which.TheVariants.{Second}
use Rattle.varlink_command.specs.declared.showing.Showing.TheVariants as showing
use Rattle.varlink_command.specs.declared.words.Command.{Command}
use Rattle.varlink_command.specs.declared.words.Command.TheVariants.{Session, SheetSession, Check, Format, Sheet, Work, Help, Compat}
use Rattle.service_core.specs.Sheets.{bare_sheet}
use Rattle.varlink_command.specs.Comparing.{ComparesFiles}
use Rattle.varlink_command.specs.FixedTexts.{ShowsFixed, help_text}
use Rattle.varlink_command.specs.Definitions.{ShowsDefinition}
use Rattle.varlink_command.specs.Ends.{Ends, Object, PutsNothing}
use Rattle.varlink_command.specs.Faults.{status_of}
use Rattle.varlink_command.specs.FaultTexts.{fault_line}
use Rattle.varlink_command.specs.Sessions.{ServesSession, ServesSheet}
use Rattle.varlink_command.specs.Sheets.{CountsSheet}
use Rattle.varlink_command.specs.Words.{command, path_of, second_path_of}
use Rattle.varlink_command.specs.Working.{TellsWork}

-- what the command on these paths did, and what it came to
abbrev pub Ran : Option Command → List ℕ → List ℕ → Ends → Ends → Result ⊤ Fault → Type 0
-- no command: nothing
Ran None path second before after outcome = outcome ≡ Err fault.BadWords
-- `session`: the session machine from the input to the output, by the service without a sheet
Ran (Some Session) path second before after outcome = ServesSession bare_sheet before after outcome
-- `session PATH`: the same by the service of the sheet in that file
Ran (Some SheetSession) path second before after outcome = ServesSheet path before after outcome
-- `check PATH`: the name of the definition in that file
Ran (Some Check) path second before after outcome = ShowsDefinition showing.Name path before after outcome
-- `format PATH`: its canonical text
Ran (Some Format) path second before after outcome = ShowsDefinition showing.Text path before after outcome
-- `sheet PATH`: how much the sheet in that file has
Ran (Some Sheet) path second before after outcome = CountsSheet path before after outcome
-- `work N`: what a call of each of N methods comes to
Ran (Some (Work methods)) path second before after outcome = TellsWork methods before after outcome
-- `help`: the words of the commands
Ran (Some Help) path second before after outcome = ShowsFixed help_text before after outcome
-- `compat OLD NEW`: whether the definition in the second file can take the place of the one in the first
Ran (Some Compat) path second before after outcome = ComparesFiles path second before after outcome

-- a line was put, or the sink failed and a front of the line was put
abbrev pub TellsLine : List ℕ → Object → Object → Type 0
TellsLine line before after =
    (Appends before.written after.written line × (after.write_faults ≡ before.write_faults))
    ⊎ (AppendsFront before.written after.written line × Rises before.write_faults after.write_faults)

-- a command that did all has status 0 and tells nothing; else it has the status of its fault, and tells it by one line
abbrev pub Concludes : List ℕ → Result ⊤ Fault → Object → Object → ℕ → Type 0
Concludes path (Ok done) before after status = PutsNothing before after × (status ≡ 0)
Concludes path (Err why) before after status = TellsLine (fault_line path why) before after × (status ≡ status_of why)

-- the path that the text of a fault may name: that of the file that failed
abbrev pub path_told : List (List ℕ) → Result ⊤ Fault → List ℕ
path_told words (Err (fault.Unreadable Second)) = second_path_of words
path_told words (Err (fault.PastLimit Second)) = second_path_of words
path_told words outcome = path_of words

-- the command that these words mean ran, and its fault was told
pub record Runs (words : List (List ℕ)) (before after : Ends) (status : ℕ) : Type 0 where
  pub outcome : Result ⊤ Fault
  pub ran : Ran (command words) (path_of words) (second_path_of words) before after outcome
  pub told : Concludes (path_told words outcome) outcome before.faults after.faults status
