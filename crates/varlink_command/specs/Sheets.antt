-- What the command on sheets does.
use Rattle.std.specs.Prelude.{◌≡◌, ℕ, Bool, true, false, List, ◌++◌, length, codes, decimal, Result, Ok, Err, Option, ⊤}
use Rattle.std.specs.Io.KnownBytes.{Appends}
use Rattle.link_port.specs.Faults.{Rises}
use Rattle.link_port.specs.Flow.{AppendsFront}
use Rattle.sheet_form.specs.Sheets.{sheet_of}
use Rattle.sheet_form.specs.declared.faults.SheetFault.{SheetFault}
use Rattle.sheet_form.specs.declared.faults.SheetFault.TheVariants as sheet
use Rattle.sheet_form.specs.declared.sheets.Contents.{Contents}
use Rattle.varlink_command.specs.declared.faults.Fault.{Fault}
use Rattle.varlink_command.specs.declared.faults.Fault.TheVariants as fault
use Rattle.varlink_command.specs.declared.faults.Which.TheVariants.{First}
use Rattle.varlink_command.specs.Definitions.{Holds, IsPastLimit, FilesFault, AsksOnce}
use Rattle.varlink_command.specs.Ends.{Ends, PutsNothing}

-- the most bytes that a sheet's file may hold
abbrev pub sheet_limit : ℕ
sheet_limit = 16777216

-- what is shown of a sheet: how many interfaces, registers and rules it has
abbrev pub counts : Contents → List ℕ
counts sheet = codes "interfaces " ++ decimal (length sheet.interfaces) ++ codes "\nregisters " ++ decimal (length sheet.registers)
    ++ codes "\nrules " ++ decimal (length sheet.rules) ++ codes "\n"

-- ---- a sheet is read

-- the text is this sheet
pub record IsSheet (held : Option (List ℕ)) (sheet : Contents) : Type 0 where
  pub text : List ℕ
  pub holds : Holds sheet_limit held text
  pub is : sheet_of text (Ok sheet)

-- want of memory is no reason
abbrev pub is_memory : SheetFault → Bool
is_memory sheet.Memory = true
is_memory why = false

-- the text is no sheet, and this is the first reason
pub record IsNoSheet (held : Option (List ℕ)) (why : SheetFault) : Type 0 where
  pub text : List ℕ
  pub holds : Holds sheet_limit held text
  pub caused : is_memory why ≡ false
  pub is : sheet_of text (Err why)

-- what was read of a file as a sheet
abbrev pub ReadsSheet : Option (List ℕ) → Result Contents Fault → Type 0
ReadsSheet held (Ok contents) = IsSheet held contents
ReadsSheet held (Err (fault.NoSheet why)) = IsNoSheet held why
ReadsSheet held (Err (fault.PastLimit file)) = (file ≡ First) × IsPastLimit sheet_limit held
ReadsSheet held (Err (fault.Unreadable file)) = file ≡ First
ReadsSheet held (Err fault.Memory) = ⊤
ReadsSheet held (Err why) = ⊥

-- ---- its counts are shown

abbrev pub ShowsCounts : Contents → Option (List ℕ) → Option (List ℕ) → ℕ → ℕ → Result ⊤ Fault → Type 0
ShowsCounts sheet before now faults faults' (Ok done) = Appends before now (counts sheet) × (faults' ≡ faults)
ShowsCounts sheet before now faults faults' (Err fault.WriteFault) = AppendsFront before now (counts sheet) × Rises faults faults'
ShowsCounts sheet before now faults faults' (Err why) = ⊥

-- ---- the command

-- the counts of a sheet that was read are shown, and else nothing is, and the command comes to the fault of the reading
abbrev pub CountsRead : Result Contents Fault → Ends → Ends → Result ⊤ Fault → Type 0
CountsRead (Err why) before after outcome = PutsNothing before.output after.output × (outcome ≡ Err why)
CountsRead (Ok sheet) before after outcome =
    ShowsCounts sheet before.output.written after.output.written before.output.write_faults after.output.write_faults outcome

-- the file at this path was read once, and the sheet that it holds is counted, or it holds none
pub record CountsSheet (path : List ℕ) (before after : Ends) (outcome : Result ⊤ Fault) : Type 0 where
  pub read : Result Contents Fault
  pub reads : ReadsSheet (before.files.holds path) read
  pub counted : FilesFault before.files.faults after.files.faults read
  pub asked : AsksOnce before.files.paths after.files.paths path
  pub shows : CountsRead read before after outcome
