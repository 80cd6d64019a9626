-- The interfaces `org.varlink.service` and `org.varlink.resolver` as trees (varlink.org, "Service").
use Rattle.std.specs.Prelude.{List, [], ◌∷◌, map, Option, Some, None, codes, if◌then◌else◌}
use Rattle.std.specs.Str.{bytes_eq}
use Rattle.idl_tree.specs.Names.{Bytes}
use Rattle.idl_tree.specs.declared.trees.Interface.{Interface}
use Rattle.idl_tree.specs.declared.trees.Member.{Member}
use Rattle.idl_tree.specs.declared.trees.Part.TheVariants.{Method, Fault}
use Rattle.idl_tree.specs.declared.trees.Prefix.{Prefix}
use Rattle.idl_tree.specs.declared.trees.Prefix.TheVariants.{Array}
use Rattle.idl_tree.specs.declared.trees.Field.{Field}
use Rattle.idl_tree.specs.declared.trees.Body.{Body}
use Rattle.idl_tree.specs.declared.trees.Body.TheVariants.{Struct, Str}

-- what is behind the prefixes is `string` in all their fields
abbrev pub Texts : Type 0
Texts = List (Bytes × List Prefix)

abbrev pub field_of : Bytes × List Prefix → Field
field_of text = record { notes = []; name = text.0; of = record { prefixes = text.1; core = Str } }

abbrev pub fields : Texts → Body
fields texts = Struct (map field_of texts) []

abbrev pub method : (note name : Bytes) → (input output : Texts) → Member
method note name input output = record { notes = note ∷ []; name = name; part = Method (fields input) (fields output) }

abbrev pub error : (note name : Bytes) → Texts → Member
error note name parameters = record { notes = note ∷ []; name = name; part = Fault (fields parameters) }

abbrev pub text : Bytes → Texts
text name = (name, []) ∷ []

-- what a service tells of itself
abbrev pub info : Texts
info = (codes "vendor", []) ∷ (codes "product", []) ∷ (codes "version", []) ∷ (codes "url", []) ∷ (codes "interfaces", Array ∷ []) ∷ []

abbrev pub service_tree : Interface
service_tree = record {
  notes = codes " The interface that every service has." ∷ [];
  name = codes "org.varlink.service";
  members =
      method (codes " Tells who made the service and which interfaces it has.") (codes "GetInfo") [] info
      ∷ method (codes " Tells the definition of one interface.") (codes "GetInterfaceDescription")
      (text (codes "interface")) (text (codes "description"))
      ∷ error (codes " The service has no such interface.") (codes "InterfaceNotFound") (text (codes "interface"))
      ∷ error (codes " The interface has no such method.") (codes "MethodNotFound") (text (codes "method"))
      ∷ error (codes " The method is defined and the service has nothing for it.") (codes "MethodNotImplemented") (text (codes "method"))
      ∷ error (codes " One of the parameters or flags is refused.") (codes "InvalidParameter") (text (codes "parameter"))
      ∷ error (codes " The method gives several replies and was called without more.") (codes "ExpectedMore") []
      ∷ error (codes " The caller may not make this call.") (codes "PermissionDenied") []
      ∷ [];
  tail = [];
}

abbrev pub resolver_tree : Interface
resolver_tree = record {
  notes = codes " Finds the address of an interface." ∷ [];
  name = codes "org.varlink.resolver";
  members =
      method (codes " Tells who made the resolver and which interfaces it knows.") (codes "GetInfo") [] info
      ∷ method (codes " Tells the address at which an interface is served.") (codes "Resolve")
      (text (codes "interface")) (text (codes "address"))
      ∷ error (codes " The interface is not registered.") (codes "InterfaceNotFound") (text (codes "interface"))
      ∷ [];
  tail = [];
}

-- the one of these two that has the name
abbrev pub standard_named : Bytes → Option Interface
standard_named name =
    if bytes_eq name (codes "org.varlink.service") then Some service_tree
    else (if bytes_eq name (codes "org.varlink.resolver") then Some resolver_tree else None)
