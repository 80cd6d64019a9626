-- What the command on two definitions does.
use Rattle.std.specs.Prelude.{◌≡◌, ℕ, ◌⊎◌, List, [], ◌∷◌, ◌++◌, Result, Ok, Err, Option, Some, IfSome, ⊤}
use Rattle.idl_tree.specs.declared.trees.Interface.{Interface}
use Rattle.idl_rules.specs.Spells.{Accepts}
use Rattle.idl_compat.specs.Lines.{line_of}
use Rattle.idl_compat.specs.Order.{MayReplace, Tells}
use Rattle.idl_compat.specs.declared.verdicts.Verdict.{Verdict}
use Rattle.varlink_command.specs.declared.faults.Fault.{Fault}
use Rattle.varlink_command.specs.declared.faults.Fault.TheVariants as fault
use Rattle.varlink_command.specs.declared.faults.Which.TheVariants as which
use Rattle.varlink_command.specs.Definitions.{definition_limit, Holds, IsPastLimit, IsRefused, FilesFault}
use Rattle.varlink_command.specs.Ends.{Ends, PutsNothing}
use Rattle.varlink_command.specs.FixedTexts.{IsShown, compatible_text}

-- ---- two definitions are read

-- what two texts are as definitions: the second is looked at where the first is one
abbrev pub ReadTexts : List ℕ → List ℕ → Result (Interface × Interface) Fault → Type 0
ReadTexts old new (Ok trees) = Accepts old trees.0 × Accepts new trees.1
ReadTexts old new (Err (fault.NoDefinition why)) =
    IsRefused old why ⊎ ((tree : Interface) × (Accepts old tree × IsRefused new why))
ReadTexts old new (Err fault.Memory) = ⊤
ReadTexts old new (Err why) = ⊥

-- both files were read, and this is what their texts are
pub record AreRead (old new : Option (List ℕ)) (read : Result (Interface × Interface) Fault) : Type 0 where
  pub old_text : List ℕ
  pub new_text : List ℕ
  pub old_holds : Holds definition_limit old old_text
  pub new_holds : Holds definition_limit new new_text
  pub are : ReadTexts old_text new_text read

-- the file's text was read
abbrev pub IsRead : Option (List ℕ) → Type 0
IsRead held = (text : List ℕ) × Holds definition_limit held text

-- what was read of two files as definitions: the old one's file before the new one's, and both before what they hold
abbrev pub ReadsBoth : Option (List ℕ) → Option (List ℕ) → Result (Interface × Interface) Fault → Type 0
ReadsBoth old new (Ok trees) = AreRead old new (Ok trees)
ReadsBoth old new (Err (fault.NoDefinition why)) = AreRead old new (Err (fault.NoDefinition why))
ReadsBoth old new (Err (fault.PastLimit which.First)) = IsPastLimit definition_limit old
ReadsBoth old new (Err (fault.PastLimit which.Second)) = IsRead old × IsPastLimit definition_limit new
ReadsBoth old new (Err (fault.Unreadable which.First)) = ⊤
ReadsBoth old new (Err (fault.Unreadable which.Second)) = IsRead old
ReadsBoth old new (Err fault.Memory) = ⊤
ReadsBoth old new (Err why) = ⊥

-- at most these two paths were asked for, in this order, and each once
abbrev pub AsksBoth : Option (List (List ℕ)) → Option (List (List ℕ)) → List ℕ → List ℕ → Type 0
AsksBoth before now old new = IfSome before (λ paths. (now ≡ Some (paths ++ old ∷ new ∷ []))
    ⊎ ((now ≡ Some (paths ++ old ∷ [])) ⊎ (now ≡ Some paths)))

-- ---- they are compared

-- the new definition can't take the old one's place, and this line tells the first reason
pub record IsNoReplacement (old new : Interface) (line : List ℕ) : Type 0 where
  pub verdict : Verdict
  pub tells : Tells old new verdict
  pub is : line ≡ line_of verdict
  pub none : MayReplace old new → ⊥

-- the fault of a verdict
abbrev pub IsLine : Verdict → Fault → Type 0
IsLine verdict (fault.Incompatible line) = line ≡ line_of verdict
IsLine verdict fault.Memory = ⊤
IsLine verdict why = ⊥

-- `compatible` is shown exactly where the new definition can take the old one's place
abbrev pub ShowsVerdict : Interface → Interface → Option (List ℕ) → Option (List ℕ) → ℕ → ℕ → Result ⊤ Fault → Type 0
ShowsVerdict old new before now faults faults' (Ok done) =
    MayReplace old new × IsShown compatible_text before now faults faults' (Ok done)
ShowsVerdict old new before now faults faults' (Err fault.WriteFault) =
    MayReplace old new × IsShown compatible_text before now faults faults' (Err fault.WriteFault)
ShowsVerdict old new before now faults faults' (Err (fault.Incompatible line)) =
    IsNoReplacement old new line × ((now ≡ before) × (faults' ≡ faults))
ShowsVerdict old new before now faults faults' (Err fault.Memory) = (now ≡ before) × (faults' ≡ faults)
ShowsVerdict old new before now faults faults' (Err why) = ⊥

-- ---- the command

-- two definitions that were read are compared, and else nothing is shown, and the command comes to the fault of the reading
abbrev pub ComparesRead : Result (Interface × Interface) Fault → Ends → Ends → Result ⊤ Fault → Type 0
ComparesRead (Err why) before after outcome = PutsNothing before.output after.output × (outcome ≡ Err why)
ComparesRead (Ok trees) before after outcome =
    ShowsVerdict trees.0 trees.1 before.output.written after.output.written before.output.write_faults after.output.write_faults
    outcome

-- the files at these paths were read once, and what they hold is compared, or one of them holds no definition
pub record ComparesFiles (old new : List ℕ) (before after : Ends) (outcome : Result ⊤ Fault) : Type 0 where
  pub read : Result (Interface × Interface) Fault
  pub reads : ReadsBoth (before.files.holds old) (before.files.holds new) read
  pub counted : FilesFault before.files.faults after.files.faults read
  pub asked : AsksBoth before.files.paths after.files.paths old new
  pub shows : ComparesRead read before after outcome
