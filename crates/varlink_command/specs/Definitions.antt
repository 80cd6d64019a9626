-- What the commands on definitions do.
use Rattle.std.specs.Prelude.{◌≡◌, ℕ, ◌<◌, ◌≤◌, ◌⊎◌, List, [], ◌∷◌, ◌++◌, length, codes, Bool, true, false, Result, Ok, Err, Option, Some, IfSome, ⊤}
use Rattle.std.specs.Io.KnownBytes.{Appends}
use Rattle.link_port.specs.Faults.{Rises}
use Rattle.link_port.specs.Flow.{AppendsFront}
use Rattle.idl_tree.specs.declared.trees.Interface.{Interface}
use Rattle.idl_rules.specs.Spells.{Accepts}
use Rattle.idl_rules.specs.Canon.{Canon}
use Rattle.idl_grammar.specs.declared.faults.IdlFault.{IdlFault}
use Rattle.idl_grammar.specs.declared.faults.IdlFault.TheVariants as idl
use Rattle.idl_grammar.specs.Refuses.{Refuses}
use Rattle.varlink_command.specs.declared.faults.Fault.{Fault}
use Rattle.varlink_command.specs.declared.faults.Fault.TheVariants as fault
use Rattle.varlink_command.specs.declared.faults.Which.{Which}
use Rattle.varlink_command.specs.declared.faults.Which.TheVariants.{First}
use Rattle.varlink_command.specs.declared.showing.Showing.{Showing}
use Rattle.varlink_command.specs.declared.showing.Showing.TheVariants.{Name, Text}
use Rattle.varlink_command.specs.Ends.{Ends, PutsNothing}

-- the most bytes that a definition's file may hold
abbrev pub definition_limit : ℕ
definition_limit = 1048576

-- what is shown of an accepted definition: `ok` and its name, or its canonical text
abbrev pub shown : Showing → Interface → List ℕ
shown Name tree = codes "ok " ++ tree.name ++ codes "\n"
shown Text tree = Canon tree

-- ---- a definition is read

-- the file's text is this one, where what it holds is told, and is within the limit
pub record Holds (limit : ℕ) (held : Option (List ℕ)) (text : List ℕ) : Type 0 where
  pub is : IfSome held (λ content. text ≡ content)
  pub within : length text ≤ limit

abbrev pub IsPastLimit : ℕ → Option (List ℕ) → Type 0
IsPastLimit limit held = IfSome held (λ content. limit < length content)

-- what was read of a file, which is this one of those that the words name
abbrev pub ReadsFile : Which → ℕ → Option (List ℕ) → Result (List ℕ) Fault → Type 0
ReadsFile which limit held (Ok text) = Holds limit held text
ReadsFile which limit held (Err (fault.PastLimit file)) = (file ≡ which) × IsPastLimit limit held
ReadsFile which limit held (Err (fault.Unreadable file)) = file ≡ which
ReadsFile which limit held (Err fault.Memory) = ⊤
ReadsFile which limit held (Err why) = ⊥

-- what the file holds is accepted as this tree
pub record IsDefinition (held : Option (List ℕ)) (tree : Interface) : Type 0 where
  pub text : List ℕ
  pub holds : Holds definition_limit held text
  pub accepts : Accepts text tree

-- the refusal is want of memory
abbrev pub is_want : IdlFault → Bool
is_want idl.Memory = true
is_want why = false

-- the text is accepted as no tree, and this is why
pub record IsRefused (text : List ℕ) (why : IdlFault) : Type 0 where
  pub caused : is_want why ≡ false
  pub refuses : Refuses why text
  pub none : (tree : Interface) → Accepts text tree → ⊥

-- what a text is as a definition
abbrev pub ReadsText : List ℕ → Result Interface Fault → Type 0
ReadsText text (Ok tree) = Accepts text tree
ReadsText text (Err (fault.NoDefinition why)) = IsRefused text why
ReadsText text (Err fault.Memory) = ⊤
ReadsText text (Err why) = ⊥

-- what the file holds is accepted as no tree, and this is why
pub record IsNone (held : Option (List ℕ)) (why : IdlFault) : Type 0 where
  pub text : List ℕ
  pub holds : Holds definition_limit held text
  pub refused : IsRefused text why

-- what was read of a file as a definition
abbrev pub ReadsDefinition : Option (List ℕ) → Result Interface Fault → Type 0
ReadsDefinition held (Ok tree) = IsDefinition held tree
ReadsDefinition held (Err (fault.NoDefinition why)) = IsNone held why
ReadsDefinition held (Err (fault.PastLimit file)) = (file ≡ First) × IsPastLimit definition_limit held
ReadsDefinition held (Err (fault.Unreadable file)) = file ≡ First
ReadsDefinition held (Err fault.Memory) = ⊤
ReadsDefinition held (Err why) = ⊥

-- the count of faults of the files rose exactly where they failed
abbrev pub FilesFault : {A : Type 0} → ℕ → ℕ → Result A Fault → Type 0
FilesFault before now (Err (fault.Unreadable file)) = Rises before now
FilesFault before now result = now ≡ before

-- at most this one path was asked for, and once
abbrev pub AsksOnce : Option (List (List ℕ)) → Option (List (List ℕ)) → List ℕ → Type 0
AsksOnce before now path = IfSome before (λ paths. (now ≡ Some (paths ++ path ∷ [])) ⊎ (now ≡ Some paths))

-- ---- it is shown

abbrev pub Shows : Showing → Interface → Option (List ℕ) → Option (List ℕ) → ℕ → ℕ → Result ⊤ Fault → Type 0
Shows showing tree before now faults faults' (Ok done) = Appends before now (shown showing tree) × (faults' ≡ faults)
Shows showing tree before now faults faults' (Err fault.WriteFault) = AppendsFront before now (shown showing tree) × Rises faults faults'
Shows showing tree before now faults faults' (Err fault.Memory) = (now ≡ before) × (faults' ≡ faults)
Shows showing tree before now faults faults' (Err why) = ⊥

-- ---- the command

-- a definition that was read is shown, and else nothing is, and the command comes to the fault of the reading
abbrev pub ShowsRead : Showing → Result Interface Fault → Ends → Ends → Result ⊤ Fault → Type 0
ShowsRead showing (Err why) before after outcome = PutsNothing before.output after.output × (outcome ≡ Err why)
ShowsRead showing (Ok tree) before after outcome =
    Shows showing tree before.output.written after.output.written before.output.write_faults after.output.write_faults outcome

-- the file at this path was read once, and what it holds is shown, or is no definition
pub record ShowsDefinition (showing : Showing) (path : List ℕ) (before after : Ends) (outcome : Result ⊤ Fault) : Type 0 where
  pub read : Result Interface Fault
  pub reads : ReadsDefinition (before.files.holds path) read
  pub counted : FilesFault before.files.faults after.files.faults read
  pub asked : AsksOnce before.files.paths after.files.paths path
  pub shows : ShowsRead showing read before after outcome
