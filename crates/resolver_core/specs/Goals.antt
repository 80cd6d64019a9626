-- Where a call goes: to the resolver itself, or to the service of an interface.
use Rattle.std.specs.Prelude.{ℕ, List, Option, Some, None, codes, if◌then◌else◌}
use Rattle.std.specs.Str.{bytes_eq}
use Rattle.serde_json.specs.Data.{Data, string}
use Rattle.serde_json.specs.Find.{get}
use Rattle.call_form.specs.declared.Call.{Call}
use Rattle.resolver_core.specs.declared.goals.Goal.{Goal}
use Rattle.resolver_core.specs.declared.goals.Goal.TheVariants as goes
use Rattle.resolver_core.specs.Registries.{service_name, resolver_name, is_fixed}
use Rattle.resolver_core.specs.Words.{at_dot}

-- a description is asked of the service that has the interface
abbrev pub described : Option Data → Goal
described (Some (string name)) = if is_fixed name then goes.Resolver else goes.Interface name
described found = goes.Resolver

abbrev pub goal_by : Call → Option (List ℕ × List ℕ) → Goal
goal_by call None = goes.Nowhere call.method
goal_by call (Some parts) =
    if bytes_eq parts.0 service_name
    then (if bytes_eq parts.1 (codes "GetInterfaceDescription") then described (get (codes "interface") call.parameters) else goes.Resolver)
    else (if bytes_eq parts.0 resolver_name then goes.Resolver else goes.Interface parts.0)

-- where a call goes
unfoldable pub goal_of : Call → Goal
goal_of call = goal_by call (at_dot call.method)
