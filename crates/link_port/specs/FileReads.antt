-- What reads of files answer.
use Rattle.std.specs.Prelude.{◌≡◌, ◌==◌, ◌≤◌, ◌<◌, ◌++◌, ℕ, true, false, List, [], ◌∷◌, length, Ok, Err, None, Some, Result, IsSomeAnd, if◌then◌else◌}
use Rattle.std.specs.declared.option.Option.{Option}
use Rattle.std.specs.Cmp.Lexicographic.{pointwise}
use Rattle.link_port.specs.declared.filing.FileFault.{FileFault}
use Rattle.link_port.specs.declared.filing.FileFault.TheVariants.{Failed, TooLong, Memory}
use Rattle.link_port.specs.Faults.{Rises}
use Rattle.link_port.specs.Planned.{Calls, is_failing, after_call}

-- a read of at most `most` bytes gives what the file holds, exactly where that is not longer
abbrev pub AnswersFile : List ℕ → ℕ → Result (List ℕ) FileFault → Type 0
AnswersFile content most (Ok bytes) = (bytes ≡ content) × (length content ≤ most)
AnswersFile content most (Err TooLong) = most < length content
AnswersFile content most (Err Failed) = Unit {0}
AnswersFile content most (Err Memory) = Unit {0}

-- the count of faults rose where the read failed, and is else as before
abbrev pub CountsFault : ℕ → ℕ → Result (List ℕ) FileFault → Type 0
CountsFault before now (Ok bytes) = now ≡ before
CountsFault before now (Err TooLong) = now ≡ before
CountsFault before now (Err Failed) = Rises before now
CountsFault before now (Err Memory) = now ≡ before

-- the paths of all reads, after one more: a read that had no memory is none
abbrev pub paths_after : List (List ℕ) → List ℕ → Result (List ℕ) FileFault → List (List ℕ)
paths_after paths path (Ok bytes) = paths ++ path ∷ []
paths_after paths path (Err TooLong) = paths ++ path ∷ []
paths_after paths path (Err Failed) = paths ++ path ∷ []
paths_after paths path (Err Memory) = paths

-- files in memory
pub record FilesInMemory : Type 0 where
  -- the names and what the files hold
  pub files : List (List ℕ × List ℕ)
  -- the reads
  pub calls : Calls
  -- the paths of the reads
  pub paths : List (List ℕ)

-- what the first file of this name holds
abbrev pub content_of : List (List ℕ × List ℕ) → List ℕ → Option (List ℕ)
content_of [] path = None
content_of (file ∷ files) path = if pointwise ◌==◌ file.0 path then Some file.1 else content_of files path

-- what the next read finds: nothing where it is to fail, or no file has this name
abbrev pub found_by : FilesInMemory → List ℕ → Option (List ℕ)
found_by files path = if is_failing files.calls then None else content_of files.files path

-- the answer to a read that finds this much, or nothing
abbrev pub AnswersFound : Option (List ℕ) → ℕ → Result (List ℕ) FileFault → Type 0
AnswersFound found most (Ok bytes) = (found ≡ Some bytes) × (length bytes ≤ most)
AnswersFound found most (Err TooLong) = IsSomeAnd found (λ content. most < length content)
AnswersFound found most (Err Failed) = found ≡ None
AnswersFound found most (Err Memory) = Unit {0}

-- the calls after a read that gave this answer
abbrev pub calls_after : Calls → Result (List ℕ) FileFault → Calls
calls_after calls (Ok bytes) = after_call false calls
calls_after calls (Err TooLong) = after_call false calls
calls_after calls (Err Failed) = after_call true calls
calls_after calls (Err Memory) = calls

-- a read of files in memory, exactly
abbrev pub ReadsInMemory : FilesInMemory → List ℕ → ℕ → Result (List ℕ) FileFault → FilesInMemory → Type 0
ReadsInMemory old path most result new = AnswersFound (found_by old path) most result
    × (new ≡ record { files = old.files; calls = calls_after old.calls result; paths = paths_after old.paths path result })
