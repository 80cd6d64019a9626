-- The words of one command line apart. A word that begins with `--` is an option of the command, which stands there at most
-- once and takes the word behind it, as it stands, where it has a value. All other words are in order, and are at most two.
use Rattle.std.specs.Prelude.{◌≡◌, Bool, true, false, List, [], ◌∷◌, if◌then◌else◌, Option, Some, None, is_some, option_map, option_and_then}
use Rattle.network_words.specs.Settings.{Word, is_option, setting_named, allows, takes_word}
use Rattle.network_words.specs.declared.settings.Kind.{Kind}
use Rattle.network_words.specs.declared.settings.Setting.{Setting}
use Rattle.network_words.specs.declared.settings.Setting.TheVariants as setting

-- what each option has, whether a flag stands there, and the other words
pub record Words : Type 0 where
  pub at : Option Word
  pub resolver : Option Word
  pub to : Option Word
  pub child : Option Word
  pub workers : Option Word
  pub connections : Option Word
  pub more : Bool
  pub oneway : Bool
  pub typed : Bool
  pub forget : Bool
  pub first : Option Word
  pub second : Option Word

-- the words, and the option that waits for its word
pub record Stage : Type 0 where
  pub given : Words
  pub waits : Option Setting

abbrev pub nothing : Words
nothing = record {
  at = None;
  resolver = None;
  to = None;
  child = None;
  workers = None;
  connections = None;
  more = false;
  oneway = false;
  typed = false;
  forget = false;
  first = None;
  second = None;
}

-- unless there is something
abbrev pub once : {A : Type 0} → Option A → Words → Option Words
once (Some x) words = None
once None words = Some words

abbrev pub once_flag : Bool → Words → Option Words
once_flag true words = None
once_flag false words = Some words

abbrev pub with_word : Setting → Word → Words → Option Words
with_word setting.At word words = once words.at (record words { at = Some word })
with_word setting.Resolver word words = once words.resolver (record words { resolver = Some word })
with_word setting.To word words = once words.to (record words { to = Some word })
with_word setting.Child word words = once words.child (record words { child = Some word })
with_word setting.Workers word words = once words.workers (record words { workers = Some word })
with_word setting.Connections word words = once words.connections (record words { connections = Some word })
with_word flag word words = None

abbrev pub with_flag : Setting → Words → Option Words
with_flag setting.More words = once_flag words.more (record words { more = true })
with_flag setting.Oneway words = once_flag words.oneway (record words { oneway = true })
with_flag setting.Typed words = once_flag words.typed (record words { typed = true })
with_flag setting.Forget words = once_flag words.forget (record words { forget = true })
with_flag other words = None

abbrev pub plain_by : Option Word → Option Word → Word → Words → Option Words
plain_by None second word words = Some (record words { first = Some word })
plain_by (Some x) None word words = Some (record words { second = Some word })
plain_by (Some x) (Some y) word words = None

abbrev pub with_plain : Word → Words → Option Words
with_plain word words = plain_by words.first words.second word words

-- no option waits
abbrev pub closed : Option Words → Option Stage
closed words = option_map (λ (w : Words). record { given = w; waits = None }) words

-- an option of this command
abbrev pub by_setting : Kind → Words → Option Setting → Option Stage
by_setting kind words None = None
by_setting kind words (Some s) = if allows kind s
    then (if takes_word s then Some (record { given = words; waits = Some s }) else closed (with_flag s words))
    else None

abbrev pub by_waiting : Kind → Words → Word → Option Setting → Option Stage
by_waiting kind words word (Some s) = closed (with_word s word words)
by_waiting kind words word None = if is_option word then by_setting kind words (setting_named word) else closed (with_plain word words)

-- one word more
abbrev pub taken : Kind → Stage → Word → Option Stage
taken kind stage word = by_waiting kind stage.given word stage.waits

-- no option waits for its word
abbrev pub whole : Words → Option Setting → Option Words
whole words None = Some words
whole words (Some s) = None

abbrev pub parted_from : Kind → Stage → List Word → Option Words
parted_from kind stage [] = whole stage.given stage.waits
parted_from kind stage (word ∷ words) = option_and_then (λ (next : Stage). parted_from kind next words) (taken kind stage word)

-- the words behind a command's
abbrev pub parted : Kind → List Word → Option Words
parted kind words = parted_from kind (record { given = nothing; waits = None }) words
