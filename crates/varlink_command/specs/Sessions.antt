-- What the commands that serve a session do.
use Rattle.std.specs.Prelude.{◌≡◌, ℕ, ◌≤◌, List, length, Result, Option}
use Rattle.std.specs.Prelude.{⊤, Ok, Err}
use Rattle.std.specs.Io.KnownBytes.{Appends, Consumes}
use Rattle.call_form.specs.declared.Call.{Call}
use Rattle.call_form.specs.declared.TheConstants.{CALL_LIMIT}
use Rattle.session_core.specs.declared.stops.Stop.{Stop}
use Rattle.session_core.specs.declared.stops.Stop.TheVariants as stop
use Rattle.session_core.specs.Limits.{most_bytes}
use Rattle.session_core.specs.Run.{run}
use Rattle.session_core.specs.Served.{ComesTo, TakesAll, ReadFaults, WriteFaults}
use Rattle.sheet_form.specs.declared.sheets.Contents.{Contents}
use Rattle.service_core.specs.Tells.{lone}
use Rattle.varlink_command.specs.declared.faults.Fault.{Fault}
use Rattle.varlink_command.specs.declared.faults.Fault.TheVariants as fault
use Rattle.varlink_command.specs.Definitions.{FilesFault, AsksOnce}
use Rattle.varlink_command.specs.Ends.{Ends, PutsNothing, TakesNothing}
use Rattle.varlink_command.specs.Sheets.{ReadsSheet}

-- a session was served by the service of this sheet: these bytes were taken, these calls were answered in a row, from the
-- registers that the sheet begins with, and what was written and the stop are those of the session machine over these bytes
pub record SessionServed (sheet : Contents) (left left' written written' : Option (List ℕ)) (why : Stop) : Type 0 where
  pub taken : List ℕ
  pub calls : List Call
  pub out : List ℕ
  pub consumed : Consumes left left' taken
  pub most : length taken ≤ most_bytes
  pub wrote : Appends written written' out
  pub comes : ComesTo (run CALL_LIMIT taken (lone sheet calls).outcomes) calls out why
  pub all : TakesAll why left taken

-- what the command comes to, where its session stopped so: a fault, but where the input ended, also after an upgrade.
-- `Full` and `Worn` are no stops of a session that is served alone
abbrev pub outcome_of : Stop → Result ⊤ Fault
outcome_of stop.End = Ok tt
outcome_of stop.Upgraded = Ok tt
outcome_of (stop.Cut bytes) = Err (fault.Cut bytes)
outcome_of (stop.NotCall index why) = Err (fault.NotCall index)
outcome_of (stop.TooLong index) = Err (fault.TooLong index)
outcome_of stop.ReadFault = Err fault.ReadFault
outcome_of stop.WriteFault = Err fault.WriteFault
outcome_of stop.Long = Err fault.Long
outcome_of stop.Memory = Err fault.Memory
outcome_of (stop.Full bytes) = Ok tt
outcome_of stop.Worn = Ok tt

-- a session was served from the input to the output, and the command comes to its stop
pub record ServesSession (sheet : Contents) (before after : Ends) (outcome : Result ⊤ Fault) : Type 0 where
  pub why : Stop
  pub served : SessionServed sheet before.input.left after.input.left before.output.written after.output.written why
  pub reads : ReadFaults why before.input.read_faults after.input.read_faults
  pub writes : WriteFaults why before.output.write_faults after.output.write_faults
  pub comes : outcome ≡ outcome_of why

-- a sheet that was read is served; else nothing is taken or put, and the command comes to the fault of the reading
abbrev pub ServesRead : Result Contents Fault → Ends → Ends → Result ⊤ Fault → Type 0
ServesRead (Err why) before after outcome =
    TakesNothing before.input after.input × PutsNothing before.output after.output × (outcome ≡ Err why)
ServesRead (Ok sheet) before after outcome = ServesSession sheet before after outcome

-- the file at this path was read once, and the sheet that it holds is served, or it holds none
pub record ServesSheet (path : List ℕ) (before after : Ends) (outcome : Result ⊤ Fault) : Type 0 where
  pub read : Result Contents Fault
  pub reads : ReadsSheet (before.files.holds path) read
  pub counted : FilesFault before.files.faults after.files.faults read
  pub asked : AsksOnce before.files.paths after.files.paths path
  pub serves : ServesRead read before after outcome
