-- The calls by which a client finds a service and its definitions (varlink.org, "Resolver": `Resolve`, and "Service":
-- `GetInterfaceDescription`). Each names an interface, and takes one reply.
use Rattle.std.specs.Prelude.{List, ℕ, false, codes}
use Rattle.serde_json.specs.Data.{string, object, no_members, member}
use Rattle.call_form.specs.declared.Call.{Call}

abbrev pub asking : List ℕ → List ℕ → Call
asking method interface = record {
  method = method;
  parameters = object (member (codes "interface") (string interface) no_members);
  oneway = false;
  more = false;
  upgrade = false;
}

abbrev pub resolve_call : List ℕ → Call
resolve_call interface = asking (codes "org.varlink.resolver.Resolve") interface

abbrev pub description_call : List ℕ → Call
description_call interface = asking (codes "org.varlink.service.GetInterfaceDescription") interface
