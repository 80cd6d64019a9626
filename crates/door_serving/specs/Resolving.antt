-- What the session of one connection is that a registry answers.
use Rattle.std.specs.Prelude.{◌≡◌, ℕ, ◌≤◌, List, length, map, Option}
use Rattle.std.specs.Io.KnownBytes.{Appends, Consumes}
use Rattle.call_form.specs.declared.Call.{Call}
use Rattle.call_form.specs.declared.TheConstants.{CALL_LIMIT}
use Rattle.session_core.specs.declared.stops.Stop.{Stop}
use Rattle.session_core.specs.Limits.{most_bytes}
use Rattle.session_core.specs.Run.{run}
use Rattle.session_core.specs.Served.{ComesTo, TakesAll}
use Rattle.resolver_core.specs.Places.{outcome_of}
use Rattle.resolver_core.specs.Registries.{Entries}
use Rattle.door_serving.specs.Attended.{Attends}

-- The calls of one connection were answered by a registry: these bytes were taken from what was left on it, and what was
-- written and the stop are those of the session machine over these bytes, each call with the outcome of the registry
pub record Resolving (registry : Entries) (left left' written written' : Option (List ℕ)) (why : Stop) : Type 0 where
  pub taken : List ℕ
  pub calls : List Call
  pub out : List ℕ
  pub consumed : Consumes left left' taken
  pub most : length taken ≤ most_bytes
  pub wrote : Appends written written' out
  pub comes : ComesTo (run CALL_LIMIT taken (map (outcome_of registry) calls)) calls out why
  pub all : TakesAll why left taken

-- a registry attends a connection by answering its calls. It stays as it is, and there are no entries
abbrev pub AttendsRegistry : Attends Entries
AttendsRegistry a b left left' written written' why entries =
    Resolving a left left' written written' why × (b ≡ a) × (entries ≡ 0)
