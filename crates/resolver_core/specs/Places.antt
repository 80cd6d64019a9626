-- How a resolver answers: it is a service of the two interfaces `org.varlink.service` and `org.varlink.resolver`
-- (varlink.org, "Service", and the interface `org.varlink.resolver`).
use Rattle.std.specs.Prelude.{ℕ, Bool, true, false, List, [], ◌∷◌, map, Option, Some, None, codes, if◌then◌else◌}
use Rattle.std.specs.Str.{bytes_eq}
use Rattle.std.specs.Borrow.{Bor}
use Rattle.serde_json.specs.Data.{Data, string, array, object, no_members, member}
use Rattle.serde_json.specs.View.{items_of}
use Rattle.serde_json.specs.Find.{get}
use Rattle.link_doors.specs.Addresses.{address_text}
use Rattle.link_doors.specs.declared.addresses.Address.{Address}
use Rattle.call_form.specs.declared.interfaces.TheConstants.{SERVICE_TEXT, RESOLVER_TEXT}
use Rattle.call_form.specs.declared.Call.{Call}
use Rattle.call_form.specs.declared.Reply.{Reply}
use Rattle.call_form.specs.declared.Outcome.{Outcome}
use Rattle.call_form.specs.declared.StdError.TheVariants as error
use Rattle.call_form.specs.StdErrors.{standard_of, error_reply}
use Rattle.session_core.specs.Tells.{Tell, always}
use Rattle.resolver_core.specs.declared.methods.Asked.{Asked}
use Rattle.resolver_core.specs.declared.methods.Asked.TheVariants as asks
use Rattle.resolver_core.specs.Registries.{Entries, names, address_at, service_name, resolver_name}
use Rattle.resolver_core.specs.Words.{at_dot}

-- what a method of the two interfaces is
abbrev pub of_service : List ℕ → Asked
of_service method =
    if bytes_eq method (codes "GetInfo") then asks.ServiceInfo
    else (if bytes_eq method (codes "GetInterfaceDescription") then asks.Description else asks.NoMethod)

abbrev pub of_resolver : List ℕ → Asked
of_resolver method =
    if bytes_eq method (codes "GetInfo") then asks.ResolverInfo
    else (if bytes_eq method (codes "Resolve") then asks.Resolve else asks.NoMethod)

abbrev pub of_parts : Option (List ℕ × List ℕ) → Asked
of_parts None = asks.NoInterface
of_parts (Some parts) =
    if bytes_eq parts.0 service_name then of_service parts.1
    else (if bytes_eq parts.0 resolver_name then of_resolver parts.1 else asks.NoInterface)

-- what the word of a call asks for
abbrev pub asked_by : List ℕ → Asked
asked_by word = of_parts (at_dot word)

-- the interface that a word names; a word without a dot stands for one
abbrev pub named_by : List ℕ → Option (List ℕ × List ℕ) → List ℕ
named_by word None = word
named_by word (Some parts) = parts.0

abbrev pub interface_of : List ℕ → List ℕ
interface_of word = named_by word (at_dot word)

abbrev pub plain : Data → Reply
plain parameters = record { parameters = parameters; continues = false; error = None }

-- who made the resolver, and interfaces
abbrev pub info_of : (interfaces : Data) → Data
info_of interfaces = object
    (member (codes "interfaces") interfaces
    (member (codes "product") (string (codes "resolver"))
    (member (codes "url") (string (codes "https://varlink.org"))
    (member (codes "vendor") (string (codes "Varlink"))
    (member (codes "version") (string (codes "1")) no_members)))))

-- texts as a JSON array
abbrev pub strings : List (List ℕ) → Data
strings texts = array (items_of (map string texts))

abbrev pub info : List (List ℕ) → Data
info interfaces = info_of (strings interfaces)

-- the definition of an interface by its name
abbrev pub description : List ℕ → Reply
description text = plain (object (member (codes "description") (string text) no_members))

abbrev pub describes : Option Data → Reply
describes (Some (string name)) =
    if bytes_eq name service_name then description SERVICE_TEXT.now
    else (if bytes_eq name resolver_name then description RESOLVER_TEXT.now else standard_of (error.InterfaceNotFound name))
describes found = standard_of (error.InvalidParameter (codes "interface"))

-- the address that is registered for a name
abbrev pub resolution : List ℕ → Option Address → Reply
resolution name (Some address) = plain (object (member (codes "address") (string (address_text address)) no_members))
resolution name None = error_reply (codes "org.varlink.resolver.InterfaceNotFound") (codes "interface") name

abbrev pub resolves : Entries → Option Data → Reply
resolves entries (Some (string name)) = resolution name (address_at name entries)
resolves entries found = standard_of (error.InvalidParameter (codes "interface"))

-- a method that the resolver has
abbrev pub is_known : Asked → Bool
is_known asks.NoInterface = false
is_known asks.NoMethod = false
is_known asked = true

-- no method of a resolver takes an upgrade
abbrev pub unless_upgrade : Call → Reply → Reply
unless_upgrade call reply = if call.upgrade then standard_of (error.InvalidParameter (codes "upgrade")) else reply

abbrev pub reply_by : Entries → Call → Asked → Reply
reply_by entries call asks.NoInterface = standard_of (error.InterfaceNotFound (interface_of call.method))
reply_by entries call asks.NoMethod = standard_of (error.MethodNotFound call.method)
reply_by entries call asks.ServiceInfo = unless_upgrade call (plain (info (service_name ∷ resolver_name ∷ [])))
reply_by entries call asks.Description = unless_upgrade call (describes (get (codes "interface") call.parameters))
reply_by entries call asks.ResolverInfo = unless_upgrade call (plain (info (names entries)))
reply_by entries call asks.Resolve = unless_upgrade call (resolves entries (get (codes "interface") call.parameters))

-- a resolver's reply to a call: each call has one
unfoldable pub reply_of : Entries → Call → Reply
reply_of entries call = reply_by entries call (asked_by call.method)

abbrev pub outcome_of : Entries → Call → Outcome
outcome_of entries call = record { replies = reply_of entries call ∷ []; raw = None }

-- a registry answers by its entries, and stays as it is
abbrev pub tell_of : Bor Entries → Call → Tell (Bor Entries)
tell_of registry = always (outcome_of registry.now) registry
