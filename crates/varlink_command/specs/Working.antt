-- What the command on works does.
use Rattle.std.specs.Prelude.{◌≡◌, ℕ, List, ◌++◌, codes, decimal, Result, Ok, Err, ⊤}
use Rattle.std.specs.Fmt.{signed_decimal}
use Rattle.work_sample.specs.Texts.{work_sheet, work_calls}
use Rattle.work_sample.specs.Works.{Works}
use Rattle.work_sample.specs.declared.works.Figures.{Figures}
use Rattle.work_sample.specs.declared.works.WorkFault.{WorkFault}
use Rattle.work_sample.specs.declared.works.WorkFault.TheVariants as work
use Rattle.varlink_command.specs.declared.faults.Fault.{Fault}
use Rattle.varlink_command.specs.declared.faults.Fault.TheVariants as fault
use Rattle.varlink_command.specs.Ends.{Ends, PutsNothing}
use Rattle.varlink_command.specs.FixedTexts.{IsShown}

-- what is shown of a work: the lengths of the definition, of the calls and of the replies, and the total
abbrev pub figure_lines : Figures → List ℕ
figure_lines figures = codes "definition " ++ decimal figures.definition ++ codes "\ncalls " ++ decimal figures.calls
    ++ codes "\nreplies " ++ decimal figures.replies ++ codes "\ntotal " ++ signed_decimal figures.total ++ codes "\n"

-- the fault of a work that was not done. `Works` says when each comes: `NoSheet` where the text is no sheet, and `NoWork`
-- where the sheet has no such interface, the calls stop before their end, or the register is no number
abbrev pub fault_of : WorkFault → Fault
fault_of (work.NoSheet why) = fault.NoSheet why
fault_of work.NoDefinition = fault.NoWork
fault_of (work.Stopped why) = fault.NoWork
fault_of work.NoTotal = fault.NoWork
fault_of work.Memory = fault.Memory

-- the figures of a work that was done are shown, and else nothing is, and the command comes to the work's fault
abbrev pub TellsFigures : Result Figures WorkFault → Ends → Ends → Result ⊤ Fault → Type 0
TellsFigures (Err why) before after outcome = PutsNothing before.output after.output × (outcome ≡ Err (fault_of why))
TellsFigures (Ok figures) before after outcome =
    IsShown (figure_lines figures) before.output.written after.output.written before.output.write_faults after.output.write_faults outcome

-- a call of each of so many methods was served by the sheet that has them, and what it came to is told
pub record TellsWork (methods : ℕ) (before after : Ends) (outcome : Result ⊤ Fault) : Type 0 where
  pub figures : Result Figures WorkFault
  pub works : Works (work_sheet methods) (work_calls methods) figures
  pub tells : TellsFigures figures before after outcome
