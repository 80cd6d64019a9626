-- What a command did does not change by the telling of its fault.
use Rattle.std.proofs.Common.{ℕ, List, Option, Some, None, Result, Ok, Err}
use Rattle.std.specs.Prelude.{⊤}
use Rattle.idl_tree.specs.declared.trees.Interface.{Interface}
use Rattle.varlink_command.specs.declared.faults.Fault.{Fault}
use Rattle.varlink_command.specs.declared.showing.Showing.{Showing}
use Rattle.varlink_command.specs.declared.words.Command.{Command}
use Rattle.varlink_command.specs.declared.words.Command.TheVariants.{Session, SheetSession, Check, Format, Sheet, Work, Help, Compat}
use Rattle.varlink_command.specs.Comparing.{ComparesFiles, ComparesRead}
use Rattle.varlink_command.specs.Definitions.{ShowsDefinition, ShowsRead}
use Rattle.varlink_command.specs.Ends.{Ends, Object}
use Rattle.varlink_command.specs.Sessions.{ServesRead, ServesSession, ServesSheet}
use Rattle.varlink_command.specs.Sheets.{CountsRead, CountsSheet}
use Rattle.sheet_form.specs.declared.sheets.Contents.{Contents}
use Rattle.varlink_command.specs.Offline.{Ran}
use Rattle.varlink_command.specs.Working.{TellsWork, TellsFigures}
use Rattle.work_sample.specs.declared.works.Figures.{Figures}
use Rattle.work_sample.specs.declared.works.WorkFault.{WorkFault}

-- the same ends with another sink of faults
abbrev pub told : Ends → Object → Ends
told ends faults = record ends { faults = faults }

shows-read : (showing : Showing) (read : Result Interface Fault) (before after : Ends) (faults : Object) (outcome : Result ⊤ Fault) →
    ShowsRead showing read before after outcome → ShowsRead showing read before (told after faults) outcome
shows-read showing (Ok tree) before after faults outcome shows = shows
shows-read showing (Err why) before after faults outcome shows = shows

shows-told : (showing : Showing) (path : List ℕ) (before after : Ends) (faults : Object) (outcome : Result ⊤ Fault) →
    ShowsDefinition showing path before after outcome → ShowsDefinition showing path before (told after faults) outcome
shows-told showing path before after faults outcome shown = record {
  read = shown.read;
  reads = shown.reads;
  counted = shown.counted;
  asked = shown.asked;
  shows = shows-read showing shown.read before after faults outcome shown.shows;
}

counts-read : (read : Result Contents Fault) (before after : Ends) (faults : Object) (outcome : Result ⊤ Fault) →
    CountsRead read before after outcome → CountsRead read before (told after faults) outcome
counts-read (Ok sheet) before after faults outcome shows = shows
counts-read (Err why) before after faults outcome shows = shows

counts-told : (path : List ℕ) (before after : Ends) (faults : Object) (outcome : Result ⊤ Fault) →
    CountsSheet path before after outcome → CountsSheet path before (told after faults) outcome
counts-told path before after faults outcome counted = record {
  read = counted.read;
  reads = counted.reads;
  counted = counted.counted;
  asked = counted.asked;
  shows = counts-read counted.read before after faults outcome counted.shows;
}

compares-read : (read : Result (Interface × Interface) Fault) (before after : Ends) (faults : Object) (outcome : Result ⊤ Fault) →
    ComparesRead read before after outcome → ComparesRead read before (told after faults) outcome
compares-read (Ok trees) before after faults outcome shows = shows
compares-read (Err why) before after faults outcome shows = shows

compares-told : (old new : List ℕ) (before after : Ends) (faults : Object) (outcome : Result ⊤ Fault) →
    ComparesFiles old new before after outcome → ComparesFiles old new before (told after faults) outcome
compares-told old new before after faults outcome compared = record {
  read = compared.read;
  reads = compared.reads;
  counted = compared.counted;
  asked = compared.asked;
  shows = compares-read compared.read before after faults outcome compared.shows;
}

session-told : (sheet : Contents) (before after : Ends) (faults : Object) (outcome : Result ⊤ Fault) →
    ServesSession sheet before after outcome → ServesSession sheet before (told after faults) outcome
session-told sheet before after faults outcome served =
    record { why = served.why; served = served.served; reads = served.reads; writes = served.writes; comes = served.comes }

serves-read : (read : Result Contents Fault) (before after : Ends) (faults : Object) (outcome : Result ⊤ Fault) →
    ServesRead read before after outcome → ServesRead read before (told after faults) outcome
serves-read (Ok sheet) before after faults outcome serves = session-told sheet before after faults outcome serves
serves-read (Err why) before after faults outcome serves = serves

serves-told : (path : List ℕ) (before after : Ends) (faults : Object) (outcome : Result ⊤ Fault) →
    ServesSheet path before after outcome → ServesSheet path before (told after faults) outcome
serves-told path before after faults outcome served = record {
  read = served.read;
  reads = served.reads;
  counted = served.counted;
  asked = served.asked;
  serves = serves-read served.read before after faults outcome served.serves;
}

figures-told : (figures : Result Figures WorkFault) (before after : Ends) (faults : Object) (outcome : Result ⊤ Fault) →
    TellsFigures figures before after outcome → TellsFigures figures before (told after faults) outcome
figures-told (Ok figures) before after faults outcome tells = tells
figures-told (Err why) before after faults outcome tells = tells

work-told : (methods : ℕ) (before after : Ends) (faults : Object) (outcome : Result ⊤ Fault) →
    TellsWork methods before after outcome → TellsWork methods before (told after faults) outcome
work-told methods before after faults outcome worked = record {
  figures = worked.figures;
  works = worked.works;
  tells = figures-told worked.figures before after faults outcome worked.tells;
}

pub Ran-told : (command : Option Command) (path second : List ℕ) (before after : Ends) (faults : Object) (outcome : Result ⊤ Fault) →
    Ran command path second before after outcome → Ran command path second before (told after faults) outcome
Ran-told None path second before after faults outcome ran = ran
Ran-told (Some Session) path second before after faults outcome ran = session-told _ before after faults outcome ran
Ran-told (Some SheetSession) path second before after faults outcome ran = serves-told path before after faults outcome ran
Ran-told (Some Check) path second before after faults outcome ran = shows-told _ path before after faults outcome ran
Ran-told (Some Format) path second before after faults outcome ran = shows-told _ path before after faults outcome ran
Ran-told (Some Sheet) path second before after faults outcome ran = counts-told path before after faults outcome ran
Ran-told (Some (Work methods)) path second before after faults outcome ran = work-told methods before after faults outcome ran
Ran-told (Some Help) path second before after faults outcome ran = ran
Ran-told (Some Compat) path second before after faults outcome ran = compares-told path second before after faults outcome ran
