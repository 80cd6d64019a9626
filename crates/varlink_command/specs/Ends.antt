-- What a command finds and leaves, as far as it is told.
use Rattle.std.specs.Prelude.{◌≡◌, ℕ, Bool, false, List}
use Rattle.std.specs.declared.option.Option.{Option}
use Rattle.link_port.specs.Flow.{IsAsBefore}

-- an object that bytes are taken from or put to: what is left to take and what was put, each with the count of its faults,
-- and whether it was told that nothing more is put
pub record Object : Type 0 where
  pub left : Option (List ℕ)
  pub read_faults : ℕ
  pub written : Option (List ℕ)
  pub write_faults : ℕ
  pub finished : Bool

-- files: what they hold by their paths, the paths of all reads, and how many reads failed
pub record Shelf : Type 0 where
  pub holds : List ℕ → Option (List ℕ)
  pub paths : Option (List (List ℕ))
  pub faults : ℕ

-- the input, the output, the sink of faults and the files
pub record Ends : Type 0 where
  pub input : Object
  pub output : Object
  pub faults : Object
  pub files : Shelf

-- what was put to an object, and the faults of it, are as before
abbrev pub PutsNothing : Object → Object → Type 0
PutsNothing before after = IsAsBefore before.written after.written before.write_faults after.write_faults

-- what is left to take from an object, and the faults of it, are as before
abbrev pub TakesNothing : Object → Object → Type 0
TakesNothing before after = IsAsBefore before.left after.left before.read_faults after.read_faults

-- neither the output nor the sink of faults was told that nothing more is put
pub record AreOpen (ends : Ends) : Type 0 where
  pub output : ends.output.finished ≡ false
  pub faults : ends.faults.finished ≡ false

-- what no command does: it puts nothing to the input, takes nothing from the output and the sink of faults, and changes
-- no file
pub record KeepsOthers (before after : Ends) : Type 0 where
  pub input : PutsNothing before.input after.input
  pub output : TakesNothing before.output after.output
  pub faults : TakesNothing before.faults after.faults
  pub held : (path : List ℕ) → after.files.holds path ≡ before.files.holds path
