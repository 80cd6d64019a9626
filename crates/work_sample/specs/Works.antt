-- What the work of n comes to.
use Rattle.std.specs.Prelude.{◌≡◌, ℕ, Bool, true, false, List, [], ◌∷◌, ◌++◌, length, codes, ⊤, Option, Some, None, Result, Ok, Err}
use Rattle.call_form.specs.declared.Call.{Call}
use Rattle.call_form.specs.declared.TheConstants.{CALL_LIMIT}
use Rattle.session_core.specs.declared.stops.Stop.{Stop}
use Rattle.session_core.specs.declared.stops.Stop.TheVariants as stop
use Rattle.session_core.specs.Run.{run}
use Rattle.session_core.specs.Served.{ComesTo}
use Rattle.typed_value.specs.declared.vals.Val.{Val}
use Rattle.typed_value.specs.declared.vals.Val.TheVariants as val
use Rattle.sheet_form.specs.Sheets.{sheet_of}
use Rattle.sheet_form.specs.declared.faults.SheetFault.{SheetFault}
use Rattle.sheet_form.specs.declared.faults.SheetFault.TheVariants as sheet
use Rattle.sheet_form.specs.declared.sheets.Contents.{Contents}
use Rattle.service_core.specs.Descriptions.{description_of}
use Rattle.service_core.specs.Tells.{lone}
use Rattle.std.specs.Prelude.{ℤ}
use Rattle.work_sample.specs.declared.works.Ended.{Ended}
use Rattle.work_sample.specs.declared.works.Figures.{Figures}
use Rattle.work_sample.specs.declared.works.WorkFault.{WorkFault}
use Rattle.work_sample.specs.declared.works.WorkFault.TheVariants as fault

-- ---- calls are served

-- the registers of a sheet after calls in a row, from those that it begins with
abbrev pub registers_after : Contents → List Call → List Val
registers_after sheet calls = (lone sheet calls).state.registers

-- the number that a sheet's one register holds
abbrev pub total_of : List Val → Option ℤ
total_of (val.Int total ∷ []) = Some total
total_of registers = None

-- the session machine reads these calls from all of these bytes, writes these bytes with the outcomes of the calls in a row,
-- and comes to the end
abbrev pub EndsWith : Contents → List ℕ → List Call → List ℕ → Type 0
EndsWith sheet bytes calls out = run CALL_LIMIT bytes (lone sheet calls).outcomes ≡ record { calls = calls; out = out; stop = Some stop.End }

-- these bytes were served to their end: what was written, and what the register holds then
pub record IsEnded (sheet : Contents) (bytes : List ℕ) (ended : Ended) : Type 0 where
  pub calls : List Call
  pub out : List ℕ
  pub ends : EndsWith sheet bytes calls out
  pub replies : ended.replies ≡ length out
  pub total : total_of (registers_after sheet calls) ≡ Some ended.total

-- these bytes were served to their end, where the sheet has other registers than one number
pub record HasNoTotal (sheet : Contents) (bytes : List ℕ) : Type 0 where
  pub calls : List Call
  pub out : List ℕ
  pub ends : EndsWith sheet bytes calls out
  pub total : total_of (registers_after sheet calls) ≡ None

-- it is a stop before the end, and not for want of memory
abbrev pub is_early : Stop → Bool
is_early stop.End = false
is_early stop.WriteFault = false
is_early stop.Memory = false
is_early why = true

-- a front of these bytes was served, and the session machine came to another stop there
pub record StopsEarly (sheet : Contents) (bytes : List ℕ) (why : Stop) : Type 0 where
  pub taken : List ℕ
  pub left : List ℕ
  pub calls : List Call
  pub out : List ℕ
  pub is : bytes ≡ taken ++ left
  pub early : is_early why ≡ true
  pub comes : ComesTo (run CALL_LIMIT taken (lone sheet calls).outcomes) calls out why

abbrev pub Serves : Contents → List ℕ → Result Ended WorkFault → Type 0
Serves sheet bytes (Ok ended) = IsEnded sheet bytes ended
Serves sheet bytes (Err (fault.Stopped why)) = StopsEarly sheet bytes why
Serves sheet bytes (Err fault.NoTotal) = HasNoTotal sheet bytes
Serves sheet bytes (Err fault.Memory) = ⊤
Serves sheet bytes (Err why) = ⊥

-- what calls come to by their stop, the number of bytes written, and the registers then
abbrev pub with_total : Option ℤ → ℕ → Result Ended WorkFault
with_total (Some total) replies = Ok (record { replies = replies; total = total })
with_total None replies = Err fault.NoTotal

abbrev pub ended_of : Stop → ℕ → List Val → Result Ended WorkFault
ended_of stop.End replies registers = with_total (total_of registers) replies
ended_of stop.WriteFault replies registers = Err fault.Memory
ended_of stop.Memory replies registers = Err fault.Memory
ended_of why replies registers = Err (fault.Stopped why)

-- ---- a sheet is read

-- want of memory is no reason
abbrev pub is_memory : SheetFault → Bool
is_memory sheet.Memory = true
is_memory why = false

-- the text is a sheet, or it is none for a reason
abbrev pub ReadsSheet : List ℕ → Result Contents WorkFault → Type 0
ReadsSheet text (Ok contents) = sheet_of text (Ok contents)
ReadsSheet text (Err (fault.NoSheet why)) = sheet_of text (Err why) × (is_memory why ≡ false)
ReadsSheet text (Err fault.Memory) = ⊤
ReadsSheet text (Err why) = ⊥

-- ---- the work

abbrev pub work_name : List ℕ
work_name = codes "org.example.work"

-- the sheet's interface has a canonical text of this length; the bytes are so many, and they were served to their end
pub record IsWork (sheet : Contents) (bytes : List ℕ) (work : Figures) : Type 0 where
  pub canon : List ℕ
  pub describes : description_of sheet work_name ≡ Some canon
  pub definition : work.definition ≡ length canon
  pub calls : work.calls ≡ length bytes
  pub ended : IsEnded sheet bytes (record { replies = work.replies; total = work.total })

-- what these bytes come to by the service of a sheet
abbrev pub WorksBy : Contents → List ℕ → Result Figures WorkFault → Type 0
WorksBy sheet bytes (Ok work) = IsWork sheet bytes work
WorksBy sheet bytes (Err fault.NoDefinition) = description_of sheet work_name ≡ None
WorksBy sheet bytes (Err (fault.Stopped why)) = StopsEarly sheet bytes why
WorksBy sheet bytes (Err fault.NoTotal) = HasNoTotal sheet bytes
WorksBy sheet bytes (Err fault.Memory) = ⊤
WorksBy sheet bytes (Err (fault.NoSheet why)) = ⊥

-- a sheet that was read is served, and else the work comes to the fault of the reading
abbrev pub WorksRead : Result Contents WorkFault → List ℕ → Result Figures WorkFault → Type 0
WorksRead (Ok sheet) bytes outcome = WorksBy sheet bytes outcome
WorksRead (Err why) bytes outcome = outcome ≡ Err why

-- the text was read, and the bytes are served by the sheet that it is, or it is none
pub record Works (text bytes : List ℕ) (outcome : Result Figures WorkFault) : Type 0 where
  pub read : Result Contents WorkFault
  pub reads : ReadsSheet text read
  pub works : WorksRead read bytes outcome
