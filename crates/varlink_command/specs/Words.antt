-- What the words of a command line mean.
use Rattle.std.specs.Prelude.{ℕ, ◌≤◌, ⊤, ◌==◌, ◌&&◌, ◌||◌, Bool, false, List, [], ◌∷◌, codes, if◌then◌else◌, Option, Some, None}
use Rattle.std.specs.Cmp.Lexicographic.{pointwise}
use Rattle.varlink_command.specs.declared.words.Command.{Command}
use Rattle.varlink_command.specs.declared.words.Command.TheVariants.{Session, SheetSession, Check, Format, Sheet, Work, Help, Compat}
use Rattle.network_words.specs.Numbers.{number_to}

abbrev pub is_word : List ℕ → List ℕ → Bool
is_word word other = pointwise ◌==◌ word other

-- the word begins with `--`
abbrev pub is_option : List ℕ → Bool
is_option [] = false
is_option (b ∷ []) = false
is_option (b ∷ c ∷ bytes) = (b == 45) && (c == 45)

-- the command whose word stands alone
abbrev pub sole_command : List ℕ → Option Command
sole_command word = if is_word word (codes "session") then Some Session
    else (if is_word word (codes "help") then Some Help else None)

-- the most methods that a work has
abbrev pub most_methods : ℕ
most_methods = 10000

abbrev pub work_of : Option ℕ → Option Command
work_of (Some methods) = Some (Work methods)
work_of None = None

-- the work of the number that this text is, from 1 to the most methods
abbrev pub work_command : List ℕ → Option Command
work_command text = work_of (number_to most_methods text)

-- a work has no more methods than that
abbrev pub IsWithin : Command → Type 0
IsWithin (Work methods) = methods ≤ most_methods
IsWithin command = ⊤

-- the command whose word takes a path or a number
abbrev pub path_command : List ℕ → List ℕ → Option Command
path_command word path = if is_word word (codes "check") then Some Check
    else (if is_word word (codes "format") then Some Format
    else (if is_word word (codes "sheet") then Some Sheet
    else (if is_word word (codes "session") then Some SheetSession
    else (if is_word word (codes "work") then work_command path else None))))

-- the command whose word takes two paths
abbrev pub pair_command : List ℕ → Option Command
pair_command word = if is_word word (codes "compat") then Some Compat else None

-- `session`, `help`, `check PATH`, `format PATH`, `sheet PATH`, `session PATH`, `work N` and
-- `compat OLD NEW`; no option is known, and no other words are a command
abbrev pub command : List (List ℕ) → Option Command
command (word ∷ []) = sole_command word
command (word ∷ path ∷ []) = if is_option path then None else path_command word path
command (word ∷ old ∷ new ∷ []) = if is_option old || is_option new then None else pair_command word
command _ = None

-- the path or the number behind a command's word
abbrev pub path_of : List (List ℕ) → List ℕ
path_of (word ∷ path ∷ rest) = path
path_of _ = []

-- the path behind that one
abbrev pub second_path_of : List (List ℕ) → List ℕ
second_path_of (word ∷ path ∷ second ∷ rest) = second
second_path_of _ = []
